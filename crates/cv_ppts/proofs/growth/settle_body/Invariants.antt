use Rattle.cv_ppts.specs.Growing.{Settles}
use Rattle.cv_ppts.specs.Keys.{setting}
use Rattle.cv_ppts.proofs.Grown.{HoldBelow}
use Rattle.cv_ppts.proofs.growth.settle_body.Given as goal

abbrev pub invariant-loop-statement : goal.invariant-loop-statement
invariant-loop-statement l = Settles l.initial.sets.items l.sets.items l.more (HoldBelow (setting l.s) l.statement)
