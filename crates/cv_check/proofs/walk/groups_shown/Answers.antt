use Rattle.std.proofs.Common.{rules}
use Rattle.cv_check.specs.Shown.{group_owed}
use Rattle.cv_check.proofs.Appended.{flat_fails, flat_goes}
use Rattle.cv_check.proofs.walk.groups_shown.Goals as goal

pub returns-in_default : goal.returns-in_default
returns-in_default c =
    flat_fails (group_owed c.args.rows.now c.args.facts.now) c.args.groups.now c.loop-group.group-index c.group-item.result _ c.args.steps.now c.loop-group.left.now
    c.loop-group-test.true c.group-item.is c.loop-group.invariant (search rules)

pub loop-group-preserved : goal.loop-group-preserved
loop-group-preserved c =
    flat_goes (group_owed c.args.rows.now c.args.facts.now) c.args.groups.now c.loop-group.group-index c.group-item.result _ c.args.steps.now c.loop-group.left.now c.in-Some.after.now
    c.loop-group-test.true c.group-item.is c.loop-group.invariant (search rules)
