use Rattle.std.proofs.Common.{◌∙◌}
use Rattle.cv_ppts.specs.Numbers.{codes_of}
use Rattle.cv_ppts.proofs.Closing.{sum_is, unknown_as}
use Rattle.cv_ppts.proofs.closed.missing_of_cells.Goals as goal

pub returns : goal.returns
returns c = unknown_as (codes_of c.args.sets.now) _ _ _ _ c.missing_unknown.result (sum_is _ _ _ _ c.pointer_count.ensures.value (c.from.ensures ∙ c.content_count.ensures)) c.cells_count.ensures c.missing_unknown.ensures
