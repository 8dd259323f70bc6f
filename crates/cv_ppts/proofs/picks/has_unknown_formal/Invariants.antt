use Rattle.std.proofs.Common.{◌+◌, ◌≡◌, ◌≤◌, length}
use Rattle.cv_ppts.specs.Choices.{has_unknown_formal}
use Rattle.cv_ppts.specs.Keys.{setting}
use Rattle.cv_ppts.specs.Picked.{choice_of}
use Rattle.cv_ppts.proofs.picks.has_unknown_formal.Given as goal

abbrev pub invariant-loop-rest : goal.invariant-loop-rest
invariant-loop-rest l =
    (has_unknown_formal (choice_of (setting l.s) l.k) l.number l.rest ≡ has_unknown_formal (choice_of (setting l.s) l.k) 0 l.formals)
    × (l.number + length l.rest ≤ length l.formals)

abbrev pub decreases-loop-rest : goal.decreases-loop-rest
decreases-loop-rest l = length l.rest
