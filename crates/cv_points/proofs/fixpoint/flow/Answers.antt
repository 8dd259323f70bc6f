use Rattle.cv_points.proofs.Saturated.{flows_then}
use Rattle.cv_points.proofs.fixpoint.flow.Goals as goal

pub loop-preserved : goal.loop-preserved
loop-preserved c =
    flows_then c.args.cells.now c.args.rules.now c.args.sets.now.items c.loop.sets.items c.visit.new.sets.items c.loop.invariant c.in_ok-visit-in-Some.ensures
