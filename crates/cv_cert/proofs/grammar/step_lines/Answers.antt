use Rattle.std.proofs.Common.{◌≡◌, ◌-◌, ◌+◌, ◌++◌, ◌∷◌, [], suc, sym, ap, ◌∙◌, arith, List}
use Rattle.cv_farkas.specs.declared.steps.Step.{Step}
use Rattle.cv_cert.specs.Reading.{lines_in}
use Rattle.cv_cert.proofs.Loops.{left_after, loop_goes, step_item, next_none, no_state, none_pushed}
use Rattle.cv_cert.proofs.grammar.step_lines.Goals as goal

pub loop-done-preserved : goal.loop-done-preserved
loop-done-preserved c =
    let found = c.loop-done.found in
    let done = c.loop-done._done in
    let count = c.args.count in
    let next = c.in_ok-next.next in
    let some : count - done ≡ suc (count - done - 1) = omega arith in
    let same : count - done - 1 ≡ count - (done + 1) = omega arith in
    let e = loop_goes step_item next_none no_state none_pushed found (count - done) (count - done - 1) (lines_in c.loop-done.rest.now) next (lines_in c.in_ok-next.after.now) some c.in_ok-next.ensures in
    ap (λ (xs : List Step). left_after step_item next_none no_state none_pushed xs (count - (done + 1)) (lines_in c.in_ok-next.after.now)) c.in_ok-push.ensures.ok
    ∙ ap (λ k. left_after step_item next_none no_state none_pushed (found ++ next ∷ []) k (lines_in c.in_ok-next.after.now)) (sym same)
    ∙ sym e ∙ c.loop-done.invariant
