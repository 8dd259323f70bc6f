use Rattle.cv_ppts.specs.Keys.{setting}
use Rattle.cv_ppts.proofs.Grown.{way_begins, way_ends, way_goes_on, way_is_over}
use Rattle.cv_ppts.proofs.fixpoint.saturated.Goals as goal

pub loop-sets-init : goal.loop-sets-init
loop-sets-init c = way_begins (setting c.args.s.now) c.args.start.items c.requires.table

pub loop-sets-smaller : goal.loop-sets-smaller
loop-sets-smaller c =
    way_ends (setting c.args.s.now) c.args.start.items c.loop-sets.sets.items c.pass.new.sets.items c.in_ok-pass.field-0
    c.if-branch.true c.loop-sets.invariant c.in_ok-pass.ensures

pub loop-sets-preserved : goal.loop-sets-preserved
loop-sets-preserved c =
    way_goes_on (setting c.args.s.now) c.args.start.items c.loop-sets.sets.items c.pass.new.sets.items c.in_ok-pass.field-0
    c.loop-sets.invariant c.in_ok-pass.ensures

pub pass-requires-clause-table : goal.pass-requires-clause-table
pass-requires-clause-table c = c.loop-sets.invariant.here

pub returns : goal.returns
returns c =
    way_is_over (setting c.args.s.now) c.args.start.items c.loop-sets.sets.items c.pass.new.sets.items c.in_ok-pass.field-0
    c.if-branch.false c.loop-sets.invariant c.in_ok-pass.ensures
