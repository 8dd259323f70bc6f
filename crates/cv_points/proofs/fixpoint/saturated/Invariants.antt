use Rattle.std.proofs.Common.{◌*◌, ◌-◌, ◌^◌, length}
use Rattle.cv_points.specs.Growing.{total}
use Rattle.cv_points.proofs.Saturated.{IsOnTheWay}
use Rattle.cv_points.proofs.fixpoint.saturated.Given as goal

abbrev pub invariant-loop-sets : goal.invariant-loop-sets
invariant-loop-sets l = IsOnTheWay l.cells l.rules l.fn.start.items l.sets.items

abbrev pub decreases-loop-sets : goal.decreases-loop-sets
decreases-loop-sets l = length l.sets.items * 2 ^ 32 - total l.sets.items
