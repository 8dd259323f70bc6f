use Rattle.std.proofs.Common.{◌∙◌}
use Rattle.cv_ppts.specs.Keys.{setting}
use Rattle.cv_ppts.proofs.Planning.{plan_is}
use Rattle.cv_ppts.proofs.fixpoint.closed_sets.Goals as goal

pub grown-requires-clause-plan : goal.grown-requires-clause-plan
grown-requires-clause-plan c =
    plan_is (setting c.args.s.now) c.as_slice.result.now c.as_slice-2.result.now (c.as_slice.ensures.value ∙ c.in_ok-rules.ensures)
    (c.as_slice-2.ensures.value ∙ c.in_ok-targets.ensures)
