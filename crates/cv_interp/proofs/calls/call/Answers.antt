use Rattle.std.proofs.Common.{ap}
use Rattle.cv_interp.specs.declared.store.Plan.{Plan}
use Rattle.cv_interp.proofs.Planned.{plan_stands, plan_there}
use Rattle.cv_interp.proofs.calls.call.Goals as goal

pub plan_at-requires : goal.plan_at-requires
plan_at-requires c = plan_there c.args.p.now c.args.plans.now c.args.a.now.number c.args.a.now.proc.now c.requires.plans c.requires.active.proc

pub malloc-requires-clause-mallocs : goal.malloc-requires-clause-mallocs
malloc-requires-clause-mallocs c =
    ap (λ (p : Plan). p.mallocs) (plan_stands c.args.p.now c.args.plans.now c.args.a.now.number c.args.a.now.proc.now c.plan_at.result.now c.requires.plans c.requires.active.proc c.plan_at.ensures)
