use Rattle.std.proofs.Common.{ℕ, ◌≤◌, ap, subst, sym, ◌∙◌, length, slice_get, below_more}
use Rattle.std.specs.Option.{option_map}
use Rattle.cv_points.specs.Closed.{Family, MaybeHolds, formal_rule}
use Rattle.cv_points.specs.Holders.{first_holder}
use Rattle.cv_points.specs.Walks.{word_rule}
use Rattle.cv_points.proofs.Lacking.{each_number, get-past, lacks_part, lacks_rule}
use Rattle.cv_points.proofs.statements.missing_in_formals.Goals as goal

pub returns-in-Some : goal.returns-in-Some
returns-in-Some c =
    let start = first_holder c.args.p.now c.args.proc in
    let r = formal_rule start c.args.f.now (slice_get c.args.f.now.formals c.loop-number.number) in
    let e = c.formal_rule.ensures start c.requires.bases.first ∙ ap (λ x. option_map word_rule (formal_rule start c.args.f.now x)) c.get.ensures.value in
    lacks_part c.args.sets.now (λ (R : Family). MaybeHolds c.args.p.now R r) (λ (R : Family). (n : ℕ) → MaybeHolds c.args.p.now R (formal_rule start c.args.f.now (slice_get c.args.f.now.formals n)))
    c.in-Some.missing.to c.in-Some.missing.site (λ R k. k c.loop-number.number)
    (lacks_rule c.args.p.now c.args.sets.now r c.in-Some.missing.to c.in-Some.missing.site (c.in-Some.ensures r c.requires.counted e))

pub loop-number-preserved : goal.loop-number-preserved
loop-number-preserved c =
    let start = first_holder c.args.p.now c.args.proc in
    let r = formal_rule start c.args.f.now (slice_get c.args.f.now.formals c.loop-number.number) in
    let e = c.formal_rule.ensures start c.requires.bases.first ∙ ap (λ x. option_map word_rule (formal_rule start c.args.f.now x)) c.get.ensures.value in
    below_more (λ k. MaybeHolds c.args.p.now c.args.sets.now (formal_rule start c.args.f.now (slice_get c.args.f.now.formals k))) c.loop-number.number c.loop-number.invariant (c.in-None.ensures r c.requires.counted e)

pub returns : goal.returns
returns c =
    let start = first_holder c.args.p.now c.args.proc in
    let ge : length c.args.f.now.formals ≤ c.loop-number.number = subst (λ n. n ≤ c.loop-number.number) c.len-number-end.ensures c.loop-number-test.false in
    each_number (λ k. MaybeHolds c.args.p.now c.args.sets.now (formal_rule start c.args.f.now (slice_get c.args.f.now.formals k))) (length c.args.f.now.formals) c.loop-number.number ge
    (λ n h. subst (λ x. MaybeHolds c.args.p.now c.args.sets.now (formal_rule start c.args.f.now x)) (sym (get-past c.args.f.now.formals n h)) tt)
    c.loop-number.invariant
