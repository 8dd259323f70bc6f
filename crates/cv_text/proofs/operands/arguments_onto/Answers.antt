use Rattle.std.proofs.Common.{sym, ap, subst, ◌∙◌, Ok}
use Rattle.std.proofs.lemmas.Result.{err_from_is_err_and}
use Rattle.cv_reading.specs.Lists.{item_or_end}
use Rattle.cv_text.specs.Given.{from, Fails}
use Rattle.cv_text.specs.StatementReader.{arguments_onto}
use Rattle.cv_text.proofs.OperandLaws.{argument_goes, argument_ends, argument_fails, argument_shorter}
use Rattle.cv_text.proofs.operands.arguments_onto.Goals as goal

pub returns-in_err-item : goal.returns-in_err-item
returns-in_err-item c =
    let p = err_from_is_err_and c.from_residual.result c.from_residual.ensures.1 in
    let f : Fails c.args.text.now c.in_err-item.field-0.0 (arguments_onto c.loop-arguments.arguments (from c.args.text.now c.loop-arguments.here)) = argument_fails c.args.text.now c.in_err-item.field-0.0 c.loop-arguments.arguments (from c.args.text.now c.loop-arguments.here) c.in_err-item.ensures in
    rw (p.1, p.2) (subst (λ o. Fails c.args.text.now c.in_err-item.field-0.0 o) c.loop-arguments.invariant f)

pub returns-in_default : goal.returns-in_default
returns-in_default c =
    sym c.loop-arguments.invariant ∙ argument_ends c.loop-arguments.arguments (from c.args.text.now c.loop-arguments.here) (from c.args.text.now c.in_ok-item.after) (c.in_ok-item.ensures ∙ ap (λ o. Ok (item_or_end o, from c.args.text.now c.in_ok-item.after)) c.in_default.is)

pub loop-arguments-smaller : goal.loop-arguments-smaller
loop-arguments-smaller c = argument_shorter (from c.args.text.now c.loop-arguments.here) (item_or_end c.in_ok-item.item) (from c.args.text.now c.in_ok-item.after) c.in_ok-item.ensures

pub loop-arguments-preserved : goal.loop-arguments-preserved
loop-arguments-preserved c =
    let k = argument_goes c.loop-arguments.arguments (from c.args.text.now c.loop-arguments.here) c.in-Some.argument (from c.args.text.now c.in_ok-item.after) (c.in_ok-item.ensures ∙ ap (λ o. Ok (item_or_end o, from c.args.text.now c.in_ok-item.after)) c.in-Some.is) in
    rw c.in_ok-push.ensures.ok (sym k ∙ c.loop-arguments.invariant)
