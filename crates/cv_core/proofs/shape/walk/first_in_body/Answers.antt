use Rattle.std.proofs.Common.{◌≡◌, ◌∙◌}
use Rattle.cv_core.proofs.Walked.{body_found, body_passed}
use Rattle.cv_core.proofs.shape.walk.first_in_body.Goals as goal

pub returns-in-Some : goal.returns-in-Some
returns-in-Some c =
    body_found c.args.s.now.program.now c.args.proc c.args.s.now.proc.now _ _ _ _ _ c.in-len1-up.len_at_least c.stmt-item.is c.is_last.ensures c.in-Some.ensures
    ∙ c.loop-rest.invariant

pub loop-rest-preserved : goal.loop-rest-preserved
loop-rest-preserved c =
    body_passed c.args.s.now.program.now c.args.proc c.args.s.now.proc.now _ _ _ _ c.in-len1-up.len_at_least c.stmt-item.is c.is_last.ensures c.in-None.ensures
    ∙ c.loop-rest.invariant
