use Rattle.std.proofs.Common.{sym, ap, subst, ◌∙◌, Ok}
use Rattle.std.proofs.lemmas.Result.{err_from_is_err_and}
use Rattle.cv_reading.specs.Lists.{item_or_end}
use Rattle.cv_text.specs.Given.{from, Fails}
use Rattle.cv_text.specs.DeclarationReader.{globals_onto, globals}
use Rattle.cv_text.proofs.DeclarationLaws.{global_goes, global_ends, global_fails, global_shorter}
use Rattle.cv_text.proofs.declarations.globals.Goals as goal

pub returns-in_err-item : goal.returns-in_err-item
unfolding globals
returns-in_err-item c =
    let p = err_from_is_err_and c.from_residual.result c.from_residual.ensures.1 in
    let f : Fails c.args.text.now c.in_err-item.field-0.0 (globals_onto c.loop-globals.globals (from c.args.text.now c.loop-globals.here)) = global_fails c.args.text.now c.in_err-item.field-0.0 c.loop-globals.globals (from c.args.text.now c.loop-globals.here) c.in_err-item.ensures in
    rw (p.1, p.2) (subst (λ o. Fails c.args.text.now c.in_err-item.field-0.0 o) c.loop-globals.invariant f)

pub returns-in_default : goal.returns-in_default
unfolding globals
returns-in_default c =
    sym c.loop-globals.invariant ∙ global_ends c.loop-globals.globals (from c.args.text.now c.loop-globals.here) (from c.args.text.now c.in_ok-item.after) (c.in_ok-item.ensures ∙ ap (λ o. Ok (item_or_end o, from c.args.text.now c.in_ok-item.after)) c.in_default.is)

pub loop-globals-smaller : goal.loop-globals-smaller
loop-globals-smaller c = global_shorter (from c.args.text.now c.loop-globals.here) c.in-Some.global (from c.args.text.now c.in_ok-item.after) (c.in_ok-item.ensures ∙ ap (λ o. Ok (item_or_end o, from c.args.text.now c.in_ok-item.after)) c.in-Some.is)

pub loop-globals-preserved : goal.loop-globals-preserved
loop-globals-preserved c =
    let k = global_goes c.loop-globals.globals (from c.args.text.now c.loop-globals.here) c.in-Some.global (from c.args.text.now c.in_ok-item.after) (c.in_ok-item.ensures ∙ ap (λ o. Ok (item_or_end o, from c.args.text.now c.in_ok-item.after)) c.in-Some.is) in
    rw c.in_ok-push.ensures.ok (sym k ∙ c.loop-globals.invariant)
