use Rattle.cv_points.specs.Growing.{Flows}
use Rattle.cv_points.proofs.fixpoint.flow.Given as goal

abbrev pub invariant-loop : goal.invariant-loop
invariant-loop l = Flows l.cells l.rules l.initial.sets.items l.sets.items
