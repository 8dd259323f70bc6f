use Rattle.std.proofs.Common.{rules}
use Rattle.cv_check.proofs.Peeled.{first_fails, later_fails, stmts_shown}
use Rattle.cv_check.proofs.walk.+statements_shown.Goals as goal

pub returns-in_default : goal.returns-in_default
returns-in_default t c =
    first_fails c.args.size c.args.target c.args.stmts.now c.args.rows.now c.args.steps.now c.first-item.result _ c.in-len1-up.len_at_least c.first-item.is (search rules)

pub returns-in-None : goal.returns-in-None
returns-in-None t c =
    later_fails c.args.size c.args.target c.args.stmts.now c.args.rows.now c.args.steps.now c.in-Some.left.now c.first-item.result _
    c.later_rows-later.result.now c.later_rows-later.ensures.value c.in-len1-up.len_at_least c.first-item.is (search rules) (search rules)

pub returns-in-Some-2 : goal.returns-in-Some-2
returns-in-Some-2 t c =
    stmts_shown c.args.size c.args.target c.args.stmts.now c.args.rows.now c.args.steps.now c.in-Some.left.now c.in-Some-2.last.now c.first-item.result _
    c.later_rows-later.result.now c.later_rows-later.ensures.value c.in-len1-up.len_at_least c.first-item.is (search rules) (search rules)
