use Rattle.std.proofs.Common.{◌++◌, [], ◌∷◌, List, ℕ, ap, ◌∙◌, codes}
use Rattle.cv_cert.specs.Writing.{integer_text, pairs_text}
use Rattle.std.proofs.Common.{ℤ, FitsSigned, rules}
use Rattle.std.specs.Int.{w64}
use Rattle.std.proofs.lemmas.Int.{to_z-of_z}
use Rattle.cv_cert.proofs.Written.{four, row_is}
use Rattle.cv_cert.proofs.write.push_row.Goals as goal

pub returns : goal.returns
returns c =
    let o = c.args.out.now.items in
    let r = c.args.row.now in
    let f : FitsSigned w64 r.constant = search rules in
    let first = simp to_z-of_z at c.in_ok-push_integer.ensures in
    let pairs = c.in_ok-push_pairs.ensures ∙ ap (λ (ps : List (ℕ × ℤ)). c.push_integer.new.out.items ++ pairs_text ps) c.as_slice.ensures.value in
    four o (codes "row") (integer_text r.constant) (pairs_text r.pairs) (10 ∷ []) c.extend_from_slice.new.self.items c.push_integer.new.out.items c.push_pairs.new.out.items c.push.new.self.items c.in_ok-extend_from_slice.ensures.items first pairs c.in_ok-push.ensures.items
    ∙ ap (λ (u : List ℕ). o ++ u) (row_is r)
