use Rattle.std.proofs.Common.{ℕ, ◌≤◌, ◌∙◌, ap, length, slice_get, subst, sym}
use Rattle.std.specs.Option.{option_map}
use Rattle.cv_points.specs.Closed.{Family, MaybeHolds, formal_rule}
use Rattle.cv_points.specs.Holders.{first_holder}
use Rattle.cv_points.specs.Walks.{word_rule}
use Rattle.cv_points.proofs.Added.{adds_all, adds_next}
use Rattle.cv_points.proofs.Lacking.{get-past}
use Rattle.cv_points.proofs.collect.put_formals.Goals as goal

pub loop-number-preserved : goal.loop-number-preserved
loop-number-preserved c =
    let start = first_holder c.args.p.now c.args.proc in
    let r = formal_rule start c.args.f.now (slice_get c.args.f.now.formals c.loop-number.number) in
    let e = c.formal_rule.ensures start c.requires.first ∙ ap (λ x. option_map word_rule (formal_rule start c.args.f.now x)) c.get.ensures.value in
    adds_next c.args.p.now c.args.rules.now.items c.loop-number.rules.items c.put_rule.new.rules.items
    (λ (S : Family) (n : ℕ). MaybeHolds c.args.p.now S (formal_rule (first_holder c.args.p.now c.args.proc) c.args.f.now (slice_get c.args.f.now.formals n))) c.loop-number.number
    c.loop-number.invariant (c.in_ok-put_rule.ensures c.args.p.now r e)

pub returns : goal.returns
returns c =
    let ge : length c.args.f.now.formals ≤ c.loop-number.number = subst (λ n. n ≤ c.loop-number.number) c.len-number-end.ensures c.loop-number-test.false in
    adds_all c.args.p.now c.args.rules.now.items c.loop-number.rules.items
    (λ (S : Family) (n : ℕ). MaybeHolds c.args.p.now S (formal_rule (first_holder c.args.p.now c.args.proc) c.args.f.now (slice_get c.args.f.now.formals n))) c.loop-number.number (length c.args.f.now.formals) ge
    (λ S n h. subst (λ x. MaybeHolds c.args.p.now S (formal_rule (first_holder c.args.p.now c.args.proc) c.args.f.now x)) (sym (get-past c.args.f.now.formals n h)) tt)
    c.loop-number.invariant
