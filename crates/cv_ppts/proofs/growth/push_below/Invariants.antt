use Rattle.std.proofs.Common.{◌≡◌, ◌++◌, length}
use Rattle.cv_ppts.specs.Growing.{inserted}
use Rattle.cv_ppts.proofs.growth.push_below.Given as goal

abbrev pub invariant-loop-rest : goal.invariant-loop-rest
invariant-loop-rest l = l.items.items ++ inserted l.number l.rest ≡ l.initial.items.items ++ inserted l.number l.set

abbrev pub decreases-loop-rest : goal.decreases-loop-rest
decreases-loop-rest l = length l.rest
