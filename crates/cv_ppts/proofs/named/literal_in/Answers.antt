use Rattle.std.proofs.Common.{ap, sym, ◌∙◌}
use Rattle.cv_ppts.specs.Entities.{literal_in}
use Rattle.cv_ppts.proofs.named.literal_in.Goals as goal

pub returns-in-Address : goal.returns-in-Address
returns-in-Address c = c.literal_named.ensures ∙ ap (literal_in c.args.p.now) (sym c.in-Address.is)
