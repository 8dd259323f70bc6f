use Rattle.std.proofs.Common.{ap, sym, ◌∙◌}
use Rattle.cv_points.specs.Walks.{callee_in}
use Rattle.cv_points.proofs.rules.callee_of.Goals as goal

pub returns-in-Call : goal.returns-in-Call
returns-in-Call c = c.callee_number.ensures ∙ ap (callee_in c.args.p.now) (sym c.in-Call.is)
