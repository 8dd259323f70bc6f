use Rattle.std.proofs.Common.{sym, ap, subst, ◌∙◌, Ok}
use Rattle.std.proofs.lemmas.Result.{err_from_is_err_and}
use Rattle.cv_reading.specs.Lists.{item_or_end}
use Rattle.cv_text.specs.Known.{points}
use Rattle.cv_text.specs.Given.{from, Fails}
use Rattle.cv_text.specs.DeclarationReader.{statements_onto, statements}
use Rattle.cv_text.proofs.DeclarationLaws.{statement_goes, statement_ends, statement_fails, statement_shorter}
use Rattle.cv_text.proofs.declarations.statements.Goals as goal

pub returns-in_err-item : goal.returns-in_err-item
unfolding statements
returns-in_err-item c =
    let p = err_from_is_err_and c.from_residual.result c.from_residual.ensures.1 in
    let f : Fails c.args.text.now c.in_err-item.field-0.0 (statements_onto (points c.args.scope.now) c.loop-statements.statements (from c.args.text.now c.loop-statements.here)) = statement_fails c.args.text.now c.in_err-item.field-0.0 (points c.args.scope.now) c.loop-statements.statements (from c.args.text.now c.loop-statements.here) c.in_err-item.ensures in
    rw (p.1, p.2) (subst (λ o. Fails c.args.text.now c.in_err-item.field-0.0 o) c.loop-statements.invariant f)

pub returns-in_default : goal.returns-in_default
unfolding statements
returns-in_default c =
    sym c.loop-statements.invariant ∙ statement_ends (points c.args.scope.now) c.loop-statements.statements (from c.args.text.now c.loop-statements.here) (from c.args.text.now c.in_ok-item.after) (c.in_ok-item.ensures ∙ ap (λ o. Ok (item_or_end o, from c.args.text.now c.in_ok-item.after)) c.in_default.is)

pub loop-statements-smaller : goal.loop-statements-smaller
loop-statements-smaller c = statement_shorter (points c.args.scope.now) (from c.args.text.now c.loop-statements.here) c.in-Some.statement (from c.args.text.now c.in_ok-item.after) (c.in_ok-item.ensures ∙ ap (λ o. Ok (item_or_end o, from c.args.text.now c.in_ok-item.after)) c.in-Some.is)

pub loop-statements-preserved : goal.loop-statements-preserved
loop-statements-preserved c =
    let k = statement_goes (points c.args.scope.now) c.loop-statements.statements (from c.args.text.now c.loop-statements.here) c.in-Some.statement (from c.args.text.now c.in_ok-item.after) (c.in_ok-item.ensures ∙ ap (λ o. Ok (item_or_end o, from c.args.text.now c.in_ok-item.after)) c.in-Some.is) in
    rw c.in_ok-push.ensures.ok (sym k ∙ c.loop-statements.invariant)
