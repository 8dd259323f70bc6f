use Rattle.std.proofs.Common.{◌≡◌, length}
use Rattle.std.specs.List.{list_any}
use Rattle.cv_ppts.specs.Choices.{is_refused, item_target}
use Rattle.cv_ppts.specs.Keys.{setting}
use Rattle.cv_ppts.specs.Picked.{choice_of}
use Rattle.cv_ppts.proofs.picks.some_refused.Given as goal

abbrev pub invariant-loop-rest : goal.invariant-loop-rest
invariant-loop-rest l =
    list_any (λ i. is_refused (setting l.s) (item_target (setting l.s) l.g (choice_of (setting l.s) l.k) i)) l.rest
    ≡ list_any (λ i. is_refused (setting l.s) (item_target (setting l.s) l.g (choice_of (setting l.s) l.k) i)) l.items

abbrev pub decreases-loop-rest : goal.decreases-loop-rest
decreases-loop-rest l = length l.rest
