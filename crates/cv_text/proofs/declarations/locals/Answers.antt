use Rattle.std.proofs.Common.{sym, ap, subst, ◌∙◌, Ok}
use Rattle.std.proofs.lemmas.Result.{err_from_is_err_and}
use Rattle.cv_reading.specs.Lists.{item_or_end}
use Rattle.cv_text.specs.Given.{from, Fails}
use Rattle.cv_text.specs.DeclarationReader.{locals_onto, locals}
use Rattle.cv_text.proofs.DeclarationLaws.{local_goes, local_ends, local_fails, local_shorter}
use Rattle.cv_text.proofs.declarations.locals.Goals as goal

pub returns-in_err-item : goal.returns-in_err-item
unfolding locals
returns-in_err-item c =
    let p = err_from_is_err_and c.from_residual.result c.from_residual.ensures.1 in
    let f : Fails c.args.text.now c.in_err-item.field-0.0 (locals_onto c.loop-locals.locals (from c.args.text.now c.loop-locals.here)) = local_fails c.args.text.now c.in_err-item.field-0.0 c.loop-locals.locals (from c.args.text.now c.loop-locals.here) c.in_err-item.ensures in
    rw (p.1, p.2) (subst (λ o. Fails c.args.text.now c.in_err-item.field-0.0 o) c.loop-locals.invariant f)

pub returns-in_default : goal.returns-in_default
unfolding locals
returns-in_default c =
    sym c.loop-locals.invariant ∙ local_ends c.loop-locals.locals (from c.args.text.now c.loop-locals.here) (from c.args.text.now c.in_ok-item.after) (c.in_ok-item.ensures ∙ ap (λ o. Ok (item_or_end o, from c.args.text.now c.in_ok-item.after)) c.in_default.is)

pub loop-locals-smaller : goal.loop-locals-smaller
loop-locals-smaller c = local_shorter (from c.args.text.now c.loop-locals.here) c.in-Some.local (from c.args.text.now c.in_ok-item.after) (c.in_ok-item.ensures ∙ ap (λ o. Ok (item_or_end o, from c.args.text.now c.in_ok-item.after)) c.in-Some.is)

pub loop-locals-preserved : goal.loop-locals-preserved
loop-locals-preserved c =
    let k = local_goes c.loop-locals.locals (from c.args.text.now c.loop-locals.here) c.in-Some.local (from c.args.text.now c.in_ok-item.after) (c.in_ok-item.ensures ∙ ap (λ o. Ok (item_or_end o, from c.args.text.now c.in_ok-item.after)) c.in-Some.is) in
    rw c.in_ok-push.ensures.ok (sym k ∙ c.loop-locals.invariant)
