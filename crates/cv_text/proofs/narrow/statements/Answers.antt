use Rattle.std.proofs.Common.{sym, ap, subst, ◌∙◌, Ok}
use Rattle.std.proofs.lemmas.Result.{err_from_is_err_and}
use Rattle.cv_text.specs.Given.{from, Fails}
use Rattle.cv_text.specs.NarrowReader.{step_of, statements, statements_onto}
use Rattle.cv_text.proofs.Straight.{goes, ends, fails_as, shorter}
use Rattle.cv_text.proofs.narrow.statements.Goals as goal

pub returns-in_err-step : goal.returns-in_err-step
unfolding statements
returns-in_err-step c =
    let p = err_from_is_err_and c.from_residual.result c.from_residual.ensures.1 in
    let f : Fails c.args.text.now c.in_err-step.field-0.0 (statements_onto c.args.b.now c.args.p.now c.loop-stmts.stmts (from c.args.text.now c.loop-stmts.here)) = fails_as c.args.text.now c.in_err-step.field-0.0 c.args.b.now c.args.p.now c.loop-stmts.stmts (from c.args.text.now c.loop-stmts.here) c.in_err-step.ensures in
    rw (p.1, p.2) (subst (λ o. Fails c.args.text.now c.in_err-step.field-0.0 o) c.loop-stmts.invariant f)

pub returns-in-Last : goal.returns-in-Last
unfolding statements
returns-in-Last c =
    let e = ends c.args.b.now c.args.p.now c.loop-stmts.stmts (from c.args.text.now c.loop-stmts.here) c.in-Last.stmt (from c.args.text.now c.in_ok-step.after) (c.in_ok-step.ensures ∙ ap (λ s. Ok (step_of s, from c.args.text.now c.in_ok-step.after)) c.in-Last.is) in
    rw c.in_ok-push-in-Last.ensures.ok (sym c.loop-stmts.invariant ∙ e)

pub loop-stmts-smaller : goal.loop-stmts-smaller
loop-stmts-smaller c = shorter c.args.b.now c.args.p.now (from c.args.text.now c.loop-stmts.here) (step_of c.in_ok-step.step) (from c.args.text.now c.in_ok-step.after) c.in_ok-step.ensures

pub loop-stmts-preserved : goal.loop-stmts-preserved
loop-stmts-preserved c =
    let e = goes c.args.b.now c.args.p.now c.loop-stmts.stmts (from c.args.text.now c.loop-stmts.here) c.in-Move.stmt (from c.args.text.now c.in_ok-step.after) (c.in_ok-step.ensures ∙ ap (λ s. Ok (step_of s, from c.args.text.now c.in_ok-step.after)) c.in-Move.is) in
    rw c.in_ok-push-in-Move.ensures.ok (sym e ∙ c.loop-stmts.invariant)
