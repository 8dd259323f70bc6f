use Rattle.std.proofs.Common.{ℕ, ◌<◌, ◌^◌, subst}
use Rattle.std.specs.List.{Contains}
use Rattle.cv_points.proofs.missing.has_site_at.Goals as goal

pub returns-clause-small : goal.returns-clause-small
returns-clause-small c = subst (λ xs. (s : ℕ) → Contains xs s → s < 2 ^ 32) c.set_at.ensures c.has_site.ensures.small
