use Rattle.std.proofs.Common.{ap, ◌∙◌}
use Rattle.std.specs.Option.{option_map}
use Rattle.cv_points.specs.Holders.{variable_place}
use Rattle.cv_points.specs.Walks.{word}
use Rattle.cv_points.proofs.rules.named_place.Goals as goal

pub returns : goal.returns
returns c start e = c.variable_place.ensures start e ∙ ap (λ x. option_map word (variable_place start c.args.f.now x)) c.as_slice.ensures
