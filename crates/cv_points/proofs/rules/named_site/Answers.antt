use Rattle.std.proofs.Common.{ap, ◌∙◌}
use Rattle.std.specs.Option.{option_map}
use Rattle.cv_points.specs.Holders.{site_of}
use Rattle.cv_points.specs.Walks.{word}
use Rattle.cv_points.proofs.rules.named_site.Goals as goal

pub returns : goal.returns
returns c proc base = c.site_of.ensures proc base ∙ ap (λ x. option_map word (site_of c.args.p.now proc c.args.f.now x)) c.as_slice.ensures
