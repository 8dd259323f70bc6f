use Rattle.std.proofs.Common.{◌≡◌, length}
use Rattle.cv_points.specs.Merge.{above, is_next}
use Rattle.cv_points.proofs.merge.after.Given as goal

abbrev pub invariant-loop-rest : goal.invariant-loop-rest
invariant-loop-rest l = (is_next l.site l.rest ≡ is_next l.site l.set) × (above l.site l.rest ≡ above l.site l.set)

abbrev pub decreases-loop-rest : goal.decreases-loop-rest
decreases-loop-rest l = length l.rest
