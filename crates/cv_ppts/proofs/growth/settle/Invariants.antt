use Rattle.std.proofs.Common.{◌*◌, ◌-◌, ◌^◌, length}
use Rattle.cv_ppts.specs.Growing.{Grows, total}
use Rattle.cv_ppts.specs.Keys.{setting}
use Rattle.cv_ppts.specs.Targets.{HoldsAt}
use Rattle.cv_ppts.proofs.growth.settle.Given as goal

abbrev pub invariant-loop-missing : goal.invariant-loop-missing
invariant-loop-missing l = Grows l.initial.sets.items l.sets.items l.more (λ R. HoldsAt (setting l.s) R l.statement)

abbrev pub decreases-loop-missing : goal.decreases-loop-missing
decreases-loop-missing l = length l.sets.items * 2 ^ 32 - total l.sets.items
