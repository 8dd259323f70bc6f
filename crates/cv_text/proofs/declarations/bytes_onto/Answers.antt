use Rattle.std.proofs.Common.{sym, ap, subst, ◌∙◌, Ok}
use Rattle.std.proofs.lemmas.Result.{err_from_is_err_and}
use Rattle.cv_reading.specs.Lists.{item_or_end}
use Rattle.cv_text.specs.Given.{from, Fails}
use Rattle.cv_text.specs.DeclarationReader.{bytes_onto}
use Rattle.cv_text.proofs.DeclarationLaws.{byte_goes, byte_ends, byte_fails, byte_shorter}
use Rattle.cv_text.proofs.declarations.bytes_onto.Goals as goal

pub returns-in_err-item : goal.returns-in_err-item
returns-in_err-item c =
    let p = err_from_is_err_and c.from_residual.result c.from_residual.ensures.1 in
    let f : Fails c.args.text.now c.in_err-item.field-0.0 (bytes_onto c.loop-bytes.bytes (from c.args.text.now c.loop-bytes.here)) = byte_fails c.args.text.now c.in_err-item.field-0.0 c.loop-bytes.bytes (from c.args.text.now c.loop-bytes.here) c.in_err-item.ensures in
    rw (p.1, p.2) (subst (λ o. Fails c.args.text.now c.in_err-item.field-0.0 o) c.loop-bytes.invariant f)

pub returns-in_default : goal.returns-in_default
returns-in_default c =
    sym c.loop-bytes.invariant ∙ byte_ends c.loop-bytes.bytes (from c.args.text.now c.loop-bytes.here) (from c.args.text.now c.in_ok-item.after) (c.in_ok-item.ensures ∙ ap (λ o. Ok (item_or_end o, from c.args.text.now c.in_ok-item.after)) c.in_default.is)

pub loop-bytes-smaller : goal.loop-bytes-smaller
loop-bytes-smaller c = byte_shorter (from c.args.text.now c.loop-bytes.here) c.in-Some.byte (from c.args.text.now c.in_ok-item.after) (c.in_ok-item.ensures ∙ ap (λ o. Ok (item_or_end o, from c.args.text.now c.in_ok-item.after)) c.in-Some.is)

pub loop-bytes-preserved : goal.loop-bytes-preserved
loop-bytes-preserved c =
    let k = byte_goes c.loop-bytes.bytes (from c.args.text.now c.loop-bytes.here) c.in-Some.byte (from c.args.text.now c.in_ok-item.after) (c.in_ok-item.ensures ∙ ap (λ o. Ok (item_or_end o, from c.args.text.now c.in_ok-item.after)) c.in-Some.is) in
    rw c.in_ok-push.ensures.ok (sym k ∙ c.loop-bytes.invariant)
