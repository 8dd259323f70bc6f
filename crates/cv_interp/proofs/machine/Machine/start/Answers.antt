use Rattle.std.proofs.Common.{ap}
use Rattle.cv_interp.specs.declared.store.Plan.{Plan}
use Rattle.cv_interp.proofs.Planned.{plan_stands, plan_there}
use Rattle.cv_interp.proofs.machine.Machine.start.Goals as goal

pub plan_at-main_plan-requires : goal.plan_at-main_plan-requires
plan_at-main_plan-requires c = plan_there c.args.program.now c.in_ok-plans.plans c.main_of-number.result.0 c.main_of-number.result.1.now c.in_ok-plans.ensures c.main_of-number.ensures.main.there

pub first_core-requires-clause-slots : goal.first_core-requires-clause-slots
first_core-requires-clause-slots c =
    ap (λ (p : Plan). p.locals)
    (plan_stands c.args.program.now c.in_ok-plans.plans c.main_of-number.result.0 c.main_of-number.result.1.now c.plan_at-main_plan.result.now c.in_ok-plans.ensures c.main_of-number.ensures.main.there c.plan_at-main_plan.ensures)

pub first_core-requires-clause-site : goal.first_core-requires-clause-site
first_core-requires-clause-site c =
    ap (λ (p : Plan). p.site)
    (plan_stands c.args.program.now c.in_ok-plans.plans c.main_of-number.result.0 c.main_of-number.result.1.now c.plan_at-main_plan.result.now c.in_ok-plans.ensures c.main_of-number.ensures.main.there c.plan_at-main_plan.ensures)
