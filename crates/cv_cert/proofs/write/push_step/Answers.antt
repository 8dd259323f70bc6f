use Rattle.std.proofs.Common.{◌++◌, [], ◌∷◌, List, ℕ, ap, ◌∙◌, codes}
use Rattle.cv_cert.specs.Writing.{number_text, parts_text}
use Rattle.cv_cert.proofs.Written.{four, step_is}
use Rattle.cv_cert.proofs.write.push_step.Goals as goal

pub returns : goal.returns
returns c =
    let o = c.args.out.now.items in
    let s = c.args.step.now in
    let d = c.in_ok-push_number.ensures ∙ ap (λ n. c.extend_from_slice.new.self.items ++ number_text n) c.from.ensures in
    let parts = c.in_ok-push_parts.ensures ∙ ap (λ (ps : List (ℕ × ℕ)). c.push_number.new.out.items ++ parts_text ps) c.as_slice.ensures in
    four o (codes "step") (number_text s.d) (parts_text s.parts) (10 ∷ []) c.extend_from_slice.new.self.items c.push_number.new.out.items c.push_parts.new.out.items c.push.new.self.items c.in_ok-extend_from_slice.ensures.items d parts c.in_ok-push.ensures.items
    ∙ ap (λ (u : List ℕ). o ++ u) (step_is s)
