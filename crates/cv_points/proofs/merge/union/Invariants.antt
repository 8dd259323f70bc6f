use Rattle.std.proofs.Common.{◌≡◌, ◌++◌, length}
use Rattle.cv_points.specs.Merge.{merge}
use Rattle.cv_points.proofs.merge.union.Given as goal

abbrev pub invariant-loop-left : goal.invariant-loop-left
invariant-loop-left l = l.items.items ++ merge l.left l.right ≡ merge l.from l.to

abbrev pub decreases-loop-left : goal.decreases-loop-left
decreases-loop-left l = length l.left
