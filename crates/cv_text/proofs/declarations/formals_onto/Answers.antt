use Rattle.std.proofs.Common.{sym, ap, subst, ◌∙◌, Ok}
use Rattle.std.proofs.lemmas.Result.{err_from_is_err_and}
use Rattle.cv_reading.specs.Lists.{item_or_end}
use Rattle.cv_text.specs.Given.{from, Fails}
use Rattle.cv_text.specs.DeclarationReader.{formals_onto}
use Rattle.cv_text.proofs.DeclarationLaws.{formal_goes, formal_ends, formal_fails, formal_shorter}
use Rattle.cv_text.proofs.declarations.formals_onto.Goals as goal

pub returns-in_err-item : goal.returns-in_err-item
returns-in_err-item c =
    let p = err_from_is_err_and c.from_residual.result c.from_residual.ensures.1 in
    let f : Fails c.args.text.now c.in_err-item.field-0.0 (formals_onto c.loop-formals.formals (from c.args.text.now c.loop-formals.here)) = formal_fails c.args.text.now c.in_err-item.field-0.0 c.loop-formals.formals (from c.args.text.now c.loop-formals.here) c.in_err-item.ensures in
    rw (p.1, p.2) (subst (λ o. Fails c.args.text.now c.in_err-item.field-0.0 o) c.loop-formals.invariant f)

pub returns-in_default : goal.returns-in_default
returns-in_default c =
    sym c.loop-formals.invariant ∙ formal_ends c.loop-formals.formals (from c.args.text.now c.loop-formals.here) (from c.args.text.now c.in_ok-item.after) (c.in_ok-item.ensures ∙ ap (λ o. Ok (item_or_end o, from c.args.text.now c.in_ok-item.after)) c.in_default.is)

pub loop-formals-smaller : goal.loop-formals-smaller
loop-formals-smaller c = formal_shorter (from c.args.text.now c.loop-formals.here) c.in-Some.formal (from c.args.text.now c.in_ok-item.after) (c.in_ok-item.ensures ∙ ap (λ o. Ok (item_or_end o, from c.args.text.now c.in_ok-item.after)) c.in-Some.is)

pub loop-formals-preserved : goal.loop-formals-preserved
loop-formals-preserved c =
    let k = formal_goes c.loop-formals.formals (from c.args.text.now c.loop-formals.here) c.in-Some.formal (from c.args.text.now c.in_ok-item.after) (c.in_ok-item.ensures ∙ ap (λ o. Ok (item_or_end o, from c.args.text.now c.in_ok-item.after)) c.in-Some.is) in
    rw c.in_ok-push.ensures.ok (sym k ∙ c.loop-formals.invariant)
