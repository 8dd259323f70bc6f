use Rattle.std.proofs.Common.{ap, sym, ◌∙◌}
use Rattle.cv_interp.specs.Plans.{line_of}
use Rattle.cv_interp.proofs.plan.line_of.Goals as goal

pub returns-in-Address : goal.returns-in-Address
returns-in-Address c = c.address_line.ensures ∙ ap (line_of c.args.p.now c.args.f.now) (sym c.in-Address.is)
