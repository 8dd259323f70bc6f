use Rattle.std.proofs.Common.{◌≡◌, ◌<◌, ap, subst, ◌∙◌, length, Some}
use Rattle.std.specs.Prelude.{IfSome, slice_get}
use Rattle.cv_core.specs.declared.program.Program.{Program}
use Rattle.cv_interp.specs.declared.store.Plan.{Plan}
use Rattle.cv_interp.proofs.Planned.{item_there, plan_stands, plan_there}
use Rattle.cv_interp.proofs.calls.call_named.Goals as goal

pub plan_at-requires : goal.plan_at-requires
plan_at-requires c =
    let lt : c.in-Some.number < length c.args.p.now.procs = subst (λ o. IfSome o (λ i. i < length c.args.p.now.procs)) c.in-Some.is c.requires.within in
    let there : slice_get c.args.p.now.procs c.in-Some.number ≡ Some c.index-as_slice-number.result =
    item_there c.as_slice.result.now c.args.p.now.procs c.in-Some.number c.index-as_slice-number.result (c.as_slice.ensures ∙ ap (λ (q : Program). q.procs) c.p.view_is) lt c.index-as_slice-number.is in
    plan_there c.args.p.now c.args.plans.now c.in-Some.number c.index-as_slice-number.result c.requires.plans there

pub call_proc-requires-clause-there : goal.call_proc-requires-clause-there
call_proc-requires-clause-there c =
    let lt : c.in-Some.number < length c.args.p.now.procs = subst (λ o. IfSome o (λ i. i < length c.args.p.now.procs)) c.in-Some.is c.requires.within in
    item_there c.as_slice.result.now c.args.p.now.procs c.in-Some.number c.index-as_slice-number.result (c.as_slice.ensures ∙ ap (λ (q : Program). q.procs) c.p.view_is) lt c.index-as_slice-number.is

pub call_proc-requires-clause-slots : goal.call_proc-requires-clause-slots
call_proc-requires-clause-slots c =
    let lt : c.in-Some.number < length c.args.p.now.procs = subst (λ o. IfSome o (λ i. i < length c.args.p.now.procs)) c.in-Some.is c.requires.within in
    let there : slice_get c.args.p.now.procs c.in-Some.number ≡ Some c.index-as_slice-number.result =
    item_there c.as_slice.result.now c.args.p.now.procs c.in-Some.number c.index-as_slice-number.result (c.as_slice.ensures ∙ ap (λ (q : Program). q.procs) c.p.view_is) lt c.index-as_slice-number.is in
    ap (λ (p : Plan). p.locals) (plan_stands c.args.p.now c.args.plans.now c.in-Some.number c.index-as_slice-number.result c.plan_at.result.now c.requires.plans there c.plan_at.ensures)

pub call_proc-requires-clause-site : goal.call_proc-requires-clause-site
call_proc-requires-clause-site c =
    let lt : c.in-Some.number < length c.args.p.now.procs = subst (λ o. IfSome o (λ i. i < length c.args.p.now.procs)) c.in-Some.is c.requires.within in
    let there : slice_get c.args.p.now.procs c.in-Some.number ≡ Some c.index-as_slice-number.result =
    item_there c.as_slice.result.now c.args.p.now.procs c.in-Some.number c.index-as_slice-number.result (c.as_slice.ensures ∙ ap (λ (q : Program). q.procs) c.p.view_is) lt c.index-as_slice-number.is in
    ap (λ (p : Plan). p.site) (plan_stands c.args.p.now c.args.plans.now c.in-Some.number c.index-as_slice-number.result c.plan_at.result.now c.requires.plans there c.plan_at.ensures)
