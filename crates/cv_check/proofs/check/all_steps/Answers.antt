use Rattle.std.proofs.Common.{rules}
use Rattle.cv_check.specs.Integer.{has_address}
use Rattle.cv_check.specs.Shown.{entry_owed, stmts_owed}
use Rattle.cv_check.proofs.Appended.{front_fails, back_fails, both_shown}
use Rattle.cv_check.proofs.check.all_steps.Goals as goal

pub returns-in_default : goal.returns-in_default
returns-in_default c =
    front_fails (entry_owed c.args.size (has_address c.args.stmts.now) c.args.rows.now) (stmts_owed c.args.size (has_address c.args.stmts.now) c.args.stmts.now c.args.rows.now) c.args.steps.now (search rules)

pub returns-in-None : goal.returns-in-None
returns-in-None c =
    back_fails (entry_owed c.args.size (has_address c.args.stmts.now) c.args.rows.now) (stmts_owed c.args.size (has_address c.args.stmts.now) c.args.stmts.now c.args.rows.now) c.args.steps.now c.in-Some.left.now
    (search rules) (search rules)

pub returns : goal.returns
returns c =
    both_shown (entry_owed c.args.size (has_address c.args.stmts.now) c.args.rows.now) (stmts_owed c.args.size (has_address c.args.stmts.now) c.args.stmts.now c.args.rows.now) c.args.steps.now c.in-Some.left.now c.in-Some-2.last.now
    (search rules) (search rules)
