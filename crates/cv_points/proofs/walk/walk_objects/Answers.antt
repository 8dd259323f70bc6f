use Rattle.std.proofs.Common.{arith, ◌∙◌, ◌+◌, ◌≤◌}
use Rattle.cv_points.proofs.Walked.{found_first, past_first}
use Rattle.cv_points.proofs.walk.walk_objects.Goals as goal

pub returns-in-Found : goal.returns-in-Found
returns-in-Found c = found_first _ _ _ _ _ _ c.in-len1-up.len_at_least c.f-item.is c.in-Found.ensures.end ∙ c.loop-rest.invariant.0

pub loop-rest-preserved : goal.loop-rest-preserved
loop-rest-preserved c = (past_first _ _ _ _ _ _ _ c.in-len1-up.len_at_least c.f-item.is c.in-Past.ensures.end ∙ c.loop-rest.invariant.0, let h : c.in-Past.left + c.in-Past.cells ≤ c.loop-rest.skip + c.loop-rest.seen = c.in-Past.ensures.shorter in omega arith)
