use Rattle.cv_points.proofs.Saturated.{way_ends, way_from, way_goes_on, way_is_over}
use Rattle.cv_points.proofs.fixpoint.saturated.Goals as goal

pub loop-sets-init : goal.loop-sets-init
loop-sets-init c =
    way_from c.args.cells.now c.args.rules.now c.args.start.items c.flow.new.sets.items c.requires c.in_ok-flow.ensures

pub loop-sets-smaller : goal.loop-sets-smaller
loop-sets-smaller c =
    way_ends c.args.cells.now c.args.rules.now c.args.start.items c.loop-sets.sets.items c.apply_all.new.sets.items c.in_ok-apply_all.field-0
    c.if-branch.true c.loop-sets.invariant c.in_ok-apply_all.ensures

pub loop-sets-preserved : goal.loop-sets-preserved
loop-sets-preserved c =
    way_goes_on c.args.cells.now c.args.rules.now c.args.start.items c.loop-sets.sets.items c.apply_all.new.sets.items c.in_ok-apply_all.field-0
    c.loop-sets.invariant c.in_ok-apply_all.ensures

pub returns : goal.returns
returns c =
    way_is_over c.args.cells.now c.args.rules.now c.args.start.items c.loop-sets.sets.items c.apply_all.new.sets.items c.in_ok-apply_all.field-0
    c.if-branch.false c.loop-sets.invariant c.in_ok-apply_all.ensures
