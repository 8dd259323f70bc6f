use Rattle.std.proofs.Common.{rules}
use Rattle.cv_check.specs.Shown.{move_owed}
use Rattle.cv_check.proofs.Appended.{flat_fails, flat_goes}
use Rattle.cv_check.proofs.walk.moves_shown.Goals as goal

pub returns-in_default : goal.returns-in_default
returns-in_default c =
    flat_fails (move_owed c.args.rows.now c.args.next.now c.args.facts.now) c.args.moves.now c.loop-step.step-index c.step-item.result _ c.args.steps.now c.loop-step.left.now
    c.loop-step-test.true c.step-item.is c.loop-step.invariant (search rules)

pub loop-step-preserved : goal.loop-step-preserved
loop-step-preserved c =
    flat_goes (move_owed c.args.rows.now c.args.next.now c.args.facts.now) c.args.moves.now c.loop-step.step-index c.step-item.result _ c.args.steps.now c.loop-step.left.now c.in-Some.after.now
    c.loop-step-test.true c.step-item.is c.loop-step.invariant (search rules)
