use Rattle.std.proofs.Common.{◌≡◌, length}
use Rattle.std.specs.List.{list_any}
use Rattle.cv_ppts.specs.Choices.{is_unknown_cell, listed_cell}
use Rattle.cv_ppts.specs.Keys.{setting}
use Rattle.cv_ppts.specs.Picked.{choice_of}
use Rattle.cv_ppts.proofs.picks.has_unknown_listed.Given as goal

abbrev pub invariant-loop-rest : goal.invariant-loop-rest
invariant-loop-rest l =
    list_any (λ x. is_unknown_cell (choice_of (setting l.s) l.k) (listed_cell (setting l.s) x)) l.rest
    ≡ list_any (λ x. is_unknown_cell (choice_of (setting l.s) l.k) (listed_cell (setting l.s) x)) l.names

abbrev pub decreases-loop-rest : goal.decreases-loop-rest
decreases-loop-rest l = length l.rest
