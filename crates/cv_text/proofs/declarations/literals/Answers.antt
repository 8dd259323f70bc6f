use Rattle.std.proofs.Common.{sym, ap, subst, ◌∙◌, Ok}
use Rattle.std.proofs.lemmas.Result.{err_from_is_err_and}
use Rattle.cv_reading.specs.Lists.{item_or_end}
use Rattle.cv_text.specs.Given.{from, Fails}
use Rattle.cv_text.specs.DeclarationReader.{literals_onto, literals}
use Rattle.cv_text.proofs.DeclarationLaws.{literal_goes, literal_ends, literal_fails, literal_shorter}
use Rattle.cv_text.proofs.declarations.literals.Goals as goal

pub returns-in_err-item : goal.returns-in_err-item
unfolding literals
returns-in_err-item c =
    let p = err_from_is_err_and c.from_residual.result c.from_residual.ensures.1 in
    let f : Fails c.args.text.now c.in_err-item.field-0.0 (literals_onto c.loop-literals.literals (from c.args.text.now c.loop-literals.here)) = literal_fails c.args.text.now c.in_err-item.field-0.0 c.loop-literals.literals (from c.args.text.now c.loop-literals.here) c.in_err-item.ensures in
    rw (p.1, p.2) (subst (λ o. Fails c.args.text.now c.in_err-item.field-0.0 o) c.loop-literals.invariant f)

pub returns-in_default : goal.returns-in_default
unfolding literals
returns-in_default c =
    sym c.loop-literals.invariant ∙ literal_ends c.loop-literals.literals (from c.args.text.now c.loop-literals.here) (from c.args.text.now c.in_ok-item.after) (c.in_ok-item.ensures ∙ ap (λ o. Ok (item_or_end o, from c.args.text.now c.in_ok-item.after)) c.in_default.is)

pub loop-literals-smaller : goal.loop-literals-smaller
loop-literals-smaller c = literal_shorter (from c.args.text.now c.loop-literals.here) c.in-Some.literal (from c.args.text.now c.in_ok-item.after) (c.in_ok-item.ensures ∙ ap (λ o. Ok (item_or_end o, from c.args.text.now c.in_ok-item.after)) c.in-Some.is)

pub loop-literals-preserved : goal.loop-literals-preserved
loop-literals-preserved c =
    let k = literal_goes c.loop-literals.literals (from c.args.text.now c.loop-literals.here) c.in-Some.literal (from c.args.text.now c.in_ok-item.after) (c.in_ok-item.ensures ∙ ap (λ o. Ok (item_or_end o, from c.args.text.now c.in_ok-item.after)) c.in-Some.is) in
    rw c.in_ok-push.ensures.ok (sym k ∙ c.loop-literals.invariant)
