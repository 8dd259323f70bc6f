use Rattle.std.proofs.Common.{ℕ, suc, ◌+◌, ◌≤◌, ◌≡◌, subst, add-one}
use Rattle.cv_points.specs.Closed.{Family, MaybeHolds, argument_count, form_rule}
use Rattle.cv_points.specs.Growing.{AddsRules}
use Rattle.cv_points.proofs.Added.{adds_next, adds_numbers}
use Rattle.cv_points.proofs.Lacking.{form_past}
use Rattle.cv_points.proofs.collect.put_form.Goals as goal

pub loop-number-preserved : goal.loop-number-preserved
loop-number-preserved c =
    let e : c.loop-number.number + 1 ≡ suc c.loop-number.number = add-one _ in
    adds_next c.args.p.now c.put_numbered.new.rules.items c.loop-number.rules.items c.put_numbered-in-loop-number.new.rules.items
    (λ (S : Family) (n : ℕ). MaybeHolds c.args.p.now S (form_rule c.args.p.now c.args.proc c.args.f.now c.args.statement c.args.form.now (suc n))) c.loop-number.number
    c.loop-number.invariant
    (subst (λ k. AddsRules c.args.p.now c.loop-number.rules.items c.put_numbered-in-loop-number.new.rules.items (λ S. MaybeHolds c.args.p.now S (form_rule c.args.p.now c.args.proc c.args.f.now c.args.statement c.args.form.now k))) e c.in_ok-put_numbered-2.ensures)

pub returns : goal.returns
returns c =
    let ge : argument_count c.args.form.now ≤ c.loop-number.number = subst (λ n. n ≤ c.loop-number.number) c.argument_count-number-end.ensures c.loop-number-test.false in
    adds_numbers c.args.p.now c.args.rules.now.items c.put_numbered.new.rules.items c.loop-number.rules.items
    (λ (S : Family) (n : ℕ). MaybeHolds c.args.p.now S (form_rule c.args.p.now c.args.proc c.args.f.now c.args.statement c.args.form.now n)) c.loop-number.number (argument_count c.args.form.now) ge
    (λ S n h z. form_past c.args.p.now S c.args.proc c.args.f.now c.args.statement c.args.form.now n h z)
    c.in_ok-put_numbered.ensures c.loop-number.invariant
