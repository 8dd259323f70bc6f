use Rattle.std.proofs.Common.{◌++◌, [], ◌∷◌, List, ℕ, ap, ◌∙◌, codes}
use Rattle.cv_cert.specs.Writing.{numbers_text}
use Rattle.cv_cert.proofs.Written.{three, set_is}
use Rattle.cv_cert.proofs.write.push_set.Goals as goal

pub returns : goal.returns
returns c =
    let o = c.args.out.now.items in
    let s = c.args.set.now in
    three o (codes "set") (numbers_text s) (10 ∷ []) c.extend_from_slice.new.self.items c.push_numbers.new.out.items c.push.new.self.items c.in_ok-extend_from_slice.ensures.items c.in_ok-push_numbers.ensures c.in_ok-push.ensures.items
    ∙ ap (λ (u : List ℕ). o ++ u) (set_is s)
