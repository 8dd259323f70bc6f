use Rattle.std.proofs.Common.{sym, ap, subst, ◌∙◌, List, Ok}
use Rattle.std.proofs.lemmas.Result.{err_from_is_err_and}
use Rattle.cv_cert.specs.declared.certificate.Block.{Block}
use Rattle.cv_cert.specs.declared.grammar.NextBlock.{NextBlock}
use Rattle.cv_cert.specs.Reading.{lines_in, Fails}
use Rattle.cv_cert.specs.Lines.{blocks}
use Rattle.cv_cert.specs.Views.{next_block}
use Rattle.cv_cert.proofs.ManyLoops.{nothing_before, blocks_left, blocks_go, blocks_end, blocks_fail, blocks_shrink}
use Rattle.cv_cert.proofs.grammar.blocks.Goals as goal

pub loop-found-init : goal.loop-found-init
unfolding blocks
loop-found-init c = rw c.new-found.ensures (nothing_before (blocks (lines_in c.args.text.now)))

pub returns-in_err-next : goal.returns-in_err-next
returns-in_err-next c =
    let p = err_from_is_err_and c.from_residual.result c.from_residual.ensures.1 in
    let f = blocks_fail c.loop-found.found (lines_in c.loop-found.rest.now) c.in_err-next.field-0.0 c.in_err-next.ensures in
    rw (p.1, p.2) (subst (λ o. Fails c.in_err-next.field-0.0 o) c.loop-found.invariant f)

pub returns-in-End : goal.returns-in-End
returns-in-End c =
    let read = c.in_ok-next.ensures ∙ ap (λ (x : NextBlock). Ok (next_block x, lines_in c.in_ok-next.after.now)) c.in-End.is in
    sym c.loop-found.invariant ∙ blocks_end c.loop-found.found (lines_in c.loop-found.rest.now) (lines_in c.in_ok-next.after.now) read

pub loop-found-smaller : goal.loop-found-smaller
loop-found-smaller c = blocks_shrink (lines_in c.loop-found.rest.now) (next_block c.in_ok-next.next) (lines_in c.in_ok-next.after.now) c.in_ok-next.ensures

pub loop-found-preserved : goal.loop-found-preserved
loop-found-preserved c =
    let read = c.in_ok-next.ensures ∙ ap (λ (x : NextBlock). Ok (next_block x, lines_in c.in_ok-next.after.now)) c.in-Block.is in
    ap (λ (xs : List Block). blocks_left xs (lines_in c.in_ok-next.after.now)) c.in_ok-push-in-Block.ensures.ok
    ∙ sym (blocks_go c.loop-found.found (lines_in c.loop-found.rest.now) c.in-Block.block (lines_in c.in_ok-next.after.now) read) ∙ c.loop-found.invariant
