use Rattle.std.proofs.Common.{sym, ap, subst, ◌∙◌, List, Ok}
use Rattle.std.proofs.lemmas.Result.{err_from_is_err_and}
use Rattle.cv_num.specs.declared.rows.Row.{Row}
use Rattle.cv_cert.specs.declared.grammar.Statement.{Statement}
use Rattle.cv_cert.specs.Reading.{lines_in, Fails}
use Rattle.cv_cert.specs.Lines.{statements}
use Rattle.cv_cert.specs.Views.{rows_or_picks}
use Rattle.cv_cert.proofs.ManyLoops.{nothing_before, statements_left, statements_go, statements_end, statements_fail, statements_shrink}
use Rattle.cv_cert.proofs.grammar.statements.Goals as goal

pub loop-found-init : goal.loop-found-init
unfolding statements
loop-found-init c = rw c.new-found.ensures (nothing_before (statements (lines_in c.args.text.now)))

pub returns-in_err-next : goal.returns-in_err-next
returns-in_err-next c =
    let p = err_from_is_err_and c.from_residual.result c.from_residual.ensures.1 in
    let f = statements_fail c.loop-found.found c.len.result (lines_in c.loop-found.rest.now) c.in_err-next.field-0.0 c.len.ensures c.in_err-next.ensures in
    rw (p.1, p.2) (subst (λ o. Fails c.in_err-next.field-0.0 o) c.loop-found.invariant f)

pub returns-in-Picks : goal.returns-in-Picks
returns-in-Picks c =
    let read = c.in_ok-next.ensures ∙ ap (λ (x : Statement). Ok (rows_or_picks x, lines_in c.in_ok-next.after.now)) c.in-Picks.is in
    sym c.loop-found.invariant ∙ statements_end c.loop-found.found c.len.result (lines_in c.loop-found.rest.now) c.in-Picks.picks (lines_in c.in_ok-next.after.now) c.len.ensures read

pub loop-found-smaller : goal.loop-found-smaller
loop-found-smaller c = statements_shrink c.len.result (lines_in c.loop-found.rest.now) (rows_or_picks c.in_ok-next.next) (lines_in c.in_ok-next.after.now) c.in_ok-next.ensures

pub loop-found-preserved : goal.loop-found-preserved
loop-found-preserved c =
    let read = c.in_ok-next.ensures ∙ ap (λ (x : Statement). Ok (rows_or_picks x, lines_in c.in_ok-next.after.now)) c.in-Rows.is in
    ap (λ (xs : List (List Row)). statements_left xs (lines_in c.in_ok-next.after.now)) c.in_ok-push-in-Rows.ensures.ok
    ∙ sym (statements_go c.loop-found.found c.len.result (lines_in c.loop-found.rest.now) c.in-Rows.rows (lines_in c.in_ok-next.after.now) c.len.ensures read) ∙ c.loop-found.invariant
