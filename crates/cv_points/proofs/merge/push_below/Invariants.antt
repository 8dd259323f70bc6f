use Rattle.std.proofs.Common.{◌≡◌, ◌++◌, length}
use Rattle.cv_points.specs.Merge.{above, below}
use Rattle.cv_points.proofs.merge.push_below.Given as goal

abbrev pub invariant-loop-rest : goal.invariant-loop-rest
invariant-loop-rest l = (l.items.items ++ below l.site l.rest ≡ l.initial.items.items ++ below l.site l.set) × (above l.site l.rest ≡ above l.site l.set)

abbrev pub decreases-loop-rest : goal.decreases-loop-rest
decreases-loop-rest l = length l.rest
