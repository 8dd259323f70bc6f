use Rattle.std.proofs.Common.{◌≡◌, ◌-◌, ◌+◌, ◌++◌, ◌∷◌, [], suc, length, sym, ap, ◌∙◌, arith, List}
use Rattle.std.proofs.lemmas.List.{length_push}
use Rattle.cv_cert.specs.declared.certificate.CertCase.{CertCase}
use Rattle.cv_cert.specs.Reading.{lines_in}
use Rattle.cv_cert.specs.Lines.{a_case}
use Rattle.cv_cert.proofs.Loops.{left_after, loop_goes, case_item, case_next, case_number, case_pushed}
use Rattle.cv_cert.proofs.grammar.cases.Goals as goal

pub loop-done-preserved : goal.loop-done-preserved
loop-done-preserved c =
    let found = c.loop-done.found in
    let done = c.loop-done.done in
    let count = c.args.count in
    let next = c.in_ok-next.next in
    let ts = lines_in c.loop-done.rest.now in
    let after = lines_in c.in_ok-next.after.now in
    let some : count - done ≡ suc (count - done - 1) = omega arith in
    let same : count - done - 1 ≡ count - (done + 1) = omega arith in
    let number : suc (length found) ≡ c.from.result + 1 = omega (arith, c.loop-done.invariant.1, c.from.ensures) in
    let e = loop_goes case_item case_next case_number case_pushed found (count - done) (count - done - 1) ts next after some (ap (λ n. a_case n ts) number ∙ c.in_ok-next.ensures) in (
      ap (λ (xs : List CertCase). left_after case_item case_next case_number case_pushed xs (count - (done + 1)) after) c.in_ok-push.ensures.ok
          ∙ ap (λ k. left_after case_item case_next case_number case_pushed (found ++ next ∷ []) k after) (sym same)
          ∙ sym e ∙ c.loop-done.invariant.0,
      omega (arith, c.loop-done.invariant.1, length_push found next, ap (λ (xs : List CertCase). length xs) c.in_ok-push.ensures.ok),
    )
