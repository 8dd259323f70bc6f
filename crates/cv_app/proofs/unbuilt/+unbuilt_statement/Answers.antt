use Rattle.std.proofs.Common.{rules, ◌<◌, ◌∙◌}
use Rattle.cv_app.proofs.BuiltLemmas.{next_stmt}
use Rattle.cv_app.proofs.unbuilt.+unbuilt_statement.Goals as goal

pub returns-then-is_built : goal.returns-then-is_built
returns-then-is_built t c =
    let few : c.args.number < 100 = search rules in
    c.unbuilt_statement.ensures
    ∙ next_stmt c.args.b.now c.args.p.now c.args.number c.args.stmts.now c.stmt-item.result _ c.is_built.result c.is_last.result c.in-len1-up.len_at_least c.stmt-item.is few
    c.if-is_built.true c.is_built.ensures c.is_last.ensures
