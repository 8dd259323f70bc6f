use Rattle.std.proofs.Common.{ℕ, suc, ◌≡◌, ◌≤◌, ◌+◌, subst, below_more, arith, add-one}
use Rattle.cv_points.specs.Closed.{Family, MaybeHolds, form_rule, argument_count}
use Rattle.cv_points.proofs.Lacking.{each_number, form_past, from_first, lacks_part}
use Rattle.cv_points.proofs.statements.missing_in_form.Goals as goal

pub returns-in-Some : goal.returns-in-Some
returns-in-Some c =
    lacks_part c.args.sets.now (λ (R : Family). MaybeHolds c.args.p.now R (form_rule c.args.p.now c.args.proc c.args.f.now c.args.statement c.args.form.now 0))
    (λ (R : Family). (n : ℕ) → MaybeHolds c.args.p.now R (form_rule c.args.p.now c.args.proc c.args.f.now c.args.statement c.args.form.now n))
    c.in-Some.missing.to c.in-Some.missing.site (λ R k. k 0) c.in-Some.ensures

pub loop-number-init : goal.loop-number-init
loop-number-init c k h = absurd (omega arith)

pub returns-in-Some-missing_by_number : goal.returns-in-Some-missing_by_number
returns-in-Some-missing_by_number c =
    lacks_part c.args.sets.now (λ (R : Family). MaybeHolds c.args.p.now R (form_rule c.args.p.now c.args.proc c.args.f.now c.args.statement c.args.form.now (c.loop-number.number + 1)))
    (λ (R : Family). (n : ℕ) → MaybeHolds c.args.p.now R (form_rule c.args.p.now c.args.proc c.args.f.now c.args.statement c.args.form.now n))
    c.in-Some-missing_by_number.missing.to c.in-Some-missing_by_number.missing.site (λ R k. k (c.loop-number.number + 1)) c.in-Some-missing_by_number.ensures

pub loop-number-preserved : goal.loop-number-preserved
loop-number-preserved c =
    let e : c.loop-number.number + 1 ≡ suc c.loop-number.number = add-one _ in
    below_more (λ k. MaybeHolds c.args.p.now c.args.sets.now (form_rule c.args.p.now c.args.proc c.args.f.now c.args.statement c.args.form.now (suc k))) c.loop-number.number c.loop-number.invariant
    (subst (λ k. MaybeHolds c.args.p.now c.args.sets.now (form_rule c.args.p.now c.args.proc c.args.f.now c.args.statement c.args.form.now k)) e c.in-None-missing_by_number.ensures)

pub returns : goal.returns
returns c =
    let P = λ (k : ℕ). MaybeHolds c.args.p.now c.args.sets.now (form_rule c.args.p.now c.args.proc c.args.f.now c.args.statement c.args.form.now k) in
    let ge : argument_count c.args.form.now ≤ c.loop-number.number = subst (λ n. n ≤ c.loop-number.number) c.argument_count-number-end.ensures c.loop-number-test.false in
    from_first P c.in-None.ensures
    (each_number (λ k. P (suc k)) (argument_count c.args.form.now) c.loop-number.number ge
    (λ n h. form_past c.args.p.now c.args.sets.now c.args.proc c.args.f.now c.args.statement c.args.form.now n h c.in-None.ensures)
    c.loop-number.invariant)
