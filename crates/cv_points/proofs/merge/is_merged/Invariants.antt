use Rattle.std.proofs.Common.{◌≡◌, length}
use Rattle.cv_points.specs.Merge.{is_merged}
use Rattle.cv_points.proofs.merge.is_merged.Given as goal

abbrev pub invariant-loop-left : goal.invariant-loop-left
invariant-loop-left l = is_merged l.left l.right ≡ is_merged l.from l.to

abbrev pub decreases-loop-left : goal.decreases-loop-left
decreases-loop-left l = length l.left
