use Rattle.std.proofs.Common.{◌≡◌, ◌-◌, ◌+◌, ◌++◌, ◌∷◌, [], suc, sym, ap, ◌∙◌, arith, List}
use Rattle.cv_num.specs.declared.rows.Row.{Row}
use Rattle.cv_cert.specs.Reading.{lines_in}
use Rattle.cv_cert.proofs.Loops.{left_after, loop_goes, row_item, row_next}
use Rattle.cv_cert.specs.Views.{last_row}
use Rattle.cv_cert.specs.Lines.{next_row_of}
use Rattle.cv_cert.specs.Reading.{one_line}
use Rattle.cv_cert.proofs.RowOrder.{last_push}
use Rattle.cv_cert.proofs.grammar.rows.Goals as goal

pub loop-done-preserved : goal.loop-done-preserved
loop-done-preserved c =
    let found = c.loop-done.found in
    let done = c.loop-done.done in
    let count = c.args.count in
    let next = c.in_ok-next.next in
    let some : count - done ≡ suc (count - done - 1) = omega arith in
    let same : count - done - 1 ≡ count - (done + 1) = omega arith in
    let e = loop_goes row_item row_next last_row last_push found (count - done) (count - done - 1) (lines_in c.loop-done.rest.now) next (lines_in c.in_ok-next.after.now) some (ap (λ (rs : List Row). one_line (next_row_of (c.args.count - c.loop-done.done - 1) (last_row rs)) (lines_in c.loop-done.rest.now)) (sym c.as_slice.ensures) ∙ c.in_ok-next.ensures) in
    ap (λ (xs : List Row). left_after row_item row_next last_row last_push xs (count - (done + 1)) (lines_in c.in_ok-next.after.now)) c.in_ok-push.ensures.ok
    ∙ ap (λ k. left_after row_item row_next last_row last_push (found ++ next ∷ []) k (lines_in c.in_ok-next.after.now)) (sym same)
    ∙ sym e ∙ c.loop-done.invariant
