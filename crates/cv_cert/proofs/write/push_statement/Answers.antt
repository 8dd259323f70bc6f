use Rattle.std.proofs.Common.{◌++◌, [], ◌∷◌, List, ℕ, ap, ◌∙◌, codes, length}
use Rattle.cv_cert.specs.Writing.{number_text, row_text}
use Rattle.std.specs.List.{flat_map}
use Rattle.cv_cert.proofs.Written.{five, statement_is}
use Rattle.cv_cert.proofs.write.push_statement.Goals as goal

pub returns : goal.returns
returns c =
    let o = c.args.out.now.items in
    let n = c.args.n in
    let rows = c.args.rows.now in
    five o (codes "at") (number_text n) (number_text (length rows)) (10 ∷ []) (flat_map row_text rows) c.extend_from_slice.new.self.items c.push_number.new.out.items c.push_number-2.new.out.items c.push.new.self.items c.push_rows.new.out.items c.in_ok-extend_from_slice.ensures.items c.in_ok-push_number.ensures c.in_ok-push_number-2.ensures c.in_ok-push.ensures.items c.in_ok-push_rows.ensures
    ∙ ap (λ (u : List ℕ). o ++ u) (statement_is n rows)
