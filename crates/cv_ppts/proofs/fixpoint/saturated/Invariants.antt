use Rattle.std.proofs.Common.{◌*◌, ◌-◌, ◌^◌, length}
use Rattle.cv_ppts.specs.Growing.{total}
use Rattle.cv_ppts.specs.Keys.{setting}
use Rattle.cv_ppts.proofs.Grown.{IsOnTheWay}
use Rattle.cv_ppts.proofs.fixpoint.saturated.Given as goal

abbrev pub invariant-loop-sets : goal.invariant-loop-sets
invariant-loop-sets l = IsOnTheWay (setting l.s) l.initial.sets.items l.sets.items

abbrev pub decreases-loop-sets : goal.decreases-loop-sets
decreases-loop-sets l = length l.sets.items * 2 ^ 32 - total l.sets.items
