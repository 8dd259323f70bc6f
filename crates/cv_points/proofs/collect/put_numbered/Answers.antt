use Rattle.cv_points.specs.Closed.{form_rule}
use Rattle.cv_points.proofs.collect.put_numbered.Goals as goal

pub returns : goal.returns
returns c =
    c.in_ok-put_rule.ensures c.args.p.now (form_rule c.args.p.now c.args.proc c.args.f.now c.args.statement c.args.form.now c.args.number)
    (c.form_rule.ensures c.args.proc c.requires.here c.requires.bases)
