use Rattle.std.proofs.Common.{refl, subst, rules, FitsSigned}
use Rattle.std.specs.Int.{w64}
use Rattle.std.proofs.lemmas.Int.{to_z-of_z}
use Rattle.cv_num.specs.Pairs.{IsCanonical}
use Rattle.cv_num.specs.Made.{IsCause}
use Rattle.cv_num.specs.declared.made.RowError.{RowError}
use Rattle.cv_cert.proofs.RowOrder.{row_made, not_canonical}
use Rattle.cv_cert.proofs.kinds.canonical_row.Goals as goal

pub returns-in-Ok : goal.returns-in-Ok
returns-in-Ok c =
    let f : FitsSigned w64 c.args.constant = search rules in
    let e = simp to_z-of_z at c.in-Ok.ensures in
    row_made c.in-Ok.made c.args.constant c.args.pairs.now e.0 e.1 e.2

pub returns-in-Err-Pairs : goal.returns-in-Err-Pairs
returns-in-Err-Pairs c =
    let h : ¬ (IsCanonical c.args.pairs.now) = subst (λ (e : RowError). IsCause e c.args.pairs.now) c.in-Err-Pairs.field-0-is c.in-Err-Pairs.ensures in
    rw (not_canonical c.args.pairs.now h) refl
