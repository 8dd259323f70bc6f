use Rattle.std.proofs.Common.{sym, ◌∙◌}
use Rattle.cv_points.proofs.Merged.{merged_subset}
use Rattle.cv_points.proofs.merge.is_within.Goals as goal

pub returns : goal.returns
returns c = λ h. merged_subset c.args.from.now c.args.to.now (sym c.is_merged.ensures ∙ h)
