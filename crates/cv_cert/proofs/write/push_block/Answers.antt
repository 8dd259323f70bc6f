use Rattle.std.proofs.Common.{◌++◌, [], ◌∷◌, List, ℕ, ap, ◌∙◌, codes, length}
use Rattle.cv_cert.specs.Writing.{number_text, case_text, numbered_text}
use Rattle.cv_cert.specs.declared.certificate.CertCase.{CertCase}
use Rattle.cv_cert.proofs.Written.{five, block_is}
use Rattle.cv_cert.proofs.write.push_block.Goals as goal

pub returns : goal.returns
returns c =
    let o = c.args.out.now.items in
    let b = c.args.block.now in
    let name = c.in_ok-extend_from_slice-2.ensures.items ∙ ap (λ (xs : List ℕ). c.extend_from_slice.new.self.items ++ xs) c.as_slice.ensures in
    let count = c.in_ok-push_number.ensures ∙ ap (λ m. c.extend_from_slice-2.new.self.items ++ number_text m) c.len.ensures in
    let cases = c.in_ok-push_cases.ensures ∙ ap (λ (xs : List CertCase). c.push.new.self.items ++ numbered_text case_text 1 xs) c.as_slice-2.ensures in
    five o (codes "proc ") b.name (number_text (length b.cases)) (10 ∷ []) (numbered_text case_text 1 b.cases)
    c.extend_from_slice.new.self.items c.extend_from_slice-2.new.self.items c.push_number.new.out.items c.push.new.self.items c.push_cases.new.out.items c.in_ok-extend_from_slice.ensures.items name count c.in_ok-push.ensures.items cases
    ∙ ap (λ (u : List ℕ). o ++ u) (block_is b)
