use Rattle.cv_points.specs.Closed.{form_rule}
use Rattle.cv_points.proofs.Lacking.{answer_by_rule}
use Rattle.cv_points.proofs.statements.missing_by_number.Goals as goal

pub returns : goal.returns
returns c =
    let r = form_rule c.args.p.now c.args.proc c.args.f.now c.args.statement c.args.form.now c.args.number in
    answer_by_rule c.args.p.now c.args.sets.now r c.missing_by.result (c.missing_by.ensures r c.requires.counted (c.form_rule.ensures c.args.proc c.requires.here c.requires.bases))
