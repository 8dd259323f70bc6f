use Rattle.std.proofs.Common.{ℕ, Some, ◌≡◌, sym, subst, ap, ◌∙◌}
use Rattle.cv_core.specs.declared.program.Program.{Program}
use Rattle.cv_points.specs.Closed.{Family, IsSubset, set_at}
use Rattle.cv_points.specs.Holders.{cell_place}
use Rattle.cv_points.specs.Missing.{CellWritten, IsLacking, LacksInCell}
use Rattle.cv_points.specs.Walks.{word}
use Rattle.cv_points.specs.declared.missing.Missing.{Missing}
use Rattle.cv_points.proofs.Lists.{match_map, IsWordOf, word_of}
use Rattle.cv_points.proofs.missing.missing_in_cell.Goals as goal

same : (m n : ℕ) → Some m ≡ Some n → m ≡ n
same m n e = cc

written : (P : Program) (S : Family) (from pointed n : ℕ) → IsWordOf (cell_place P pointed) n → IsSubset (set_at S from) (set_at S n) → CellWritten P S from pointed
written P S from pointed n w h cell e =
    let k : w.whole ≡ cell = same w.whole cell (sym w.is ∙ e) in
    subst (λ v. IsSubset (set_at S from) (set_at S v)) (w.word_is ∙ ap word k) h

lacking : (P : Program) (S : Family) (from pointed n to site : ℕ) → IsWordOf (cell_place P pointed) n → to ≡ n → IsLacking S from n site → LacksInCell P S from pointed to site
lacking P S from pointed n to site w e h = record { cell = w.whole; is_cell = w.is; place = e ∙ w.word_is; lacks = subst (λ v. IsLacking S from v site) (sym e) h }

pub returns-in-Some-clause-missing : goal.returns-in-Some-clause-missing
returns-in-Some-clause-missing c =
    let w = word_of (cell_place c.args.p.now c.args.pointed) c.in-Some.cell c.in-Some.ensures.place in
    match_map (IsSubset (set_at c.args.sets.now c.args.from) (set_at c.args.sets.now c.in-Some.cell)) (CellWritten c.args.p.now c.args.sets.now c.args.from c.args.pointed)
    (λ (m : Missing). (m.to ≡ c.in-Some.cell) × IsLacking c.args.sets.now c.args.from c.in-Some.cell m.site)
    (λ (m : Missing). LacksInCell c.args.p.now c.args.sets.now c.args.from c.args.pointed m.to m.site)
    c.missing_within.result
    (written c.args.p.now c.args.sets.now c.args.from c.args.pointed c.in-Some.cell w)
    (λ m h. lacking c.args.p.now c.args.sets.now c.args.from c.args.pointed c.in-Some.cell m.to m.site w h.0 h.1)
    c.missing_within.ensures
