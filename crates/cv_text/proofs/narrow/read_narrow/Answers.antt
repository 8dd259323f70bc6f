use Rattle.std.proofs.Common.{◌≡◌, [], sym, ap, subst, ◌∙◌, Ok, Some, ℕ, List, Bool, true, false}
use Rattle.cv_core.specs.declared.program.Program.{Program}
use Rattle.cv_core.specs.declared.program.Stmt.{Stmt}
use Rattle.cv_text.specs.Tokens.{lexemes}
use Rattle.cv_text.specs.Whole.{Spells}
use Rattle.cv_text.specs.Narrow.{IsNarrow}
use Rattle.cv_text.specs.Given.{from}
use Rattle.cv_text.specs.WholeParts.{IsWhole}
use Rattle.cv_text.specs.NarrowReader.{narrow}
use Rattle.cv_text.specs.declared.narrow.Locals.{Locals}
use Rattle.cv_text.proofs.NarrowWhole.{is_spelled, is_narrow, is_written, none_at_fault, none_if_not_whole, the_one}
use Rattle.cv_text.proofs.narrow.read_narrow.Goals as goal

differ : (b : Bool) → b ≡ true → b ≡ false → ⊥
differ true h k = absurd cc
differ false h k = absurd cc

pub returns-in-Err-Fault-clause-only : goal.returns-in-Err-Fault-clause-only
returns-in-Err-Fault-clause-only c = λ p s n. absurd (none_at_fault c.args.text.now (from c.args.text.now c.in-Err-Fault.field-0-0) p (rw c.in-Err-Fault.field-0-is at c.in-Err-Fault.ensures) s n)

pub returns-then-not-is_whole-clause-only : goal.returns-then-not-is_whole-clause-only
returns-then-not-is_whole-clause-only c = λ p s n.
    let v : ℕ × (Locals × List Stmt) = (c.in-Ok.found.0.line, (c.in-Ok.found.0.locals, c.in-Ok.found.0.stmts)) in
    absurd (none_if_not_whole c.args.text.now c.in-Ok.found.1 v p c.in-Ok.ensures (λ w. differ c.is_whole.result (c.is_whole.ensures.1 w) c.if-not-is_whole.true) s n)

whole : (text : List ℕ) (at : ℕ) (v : ℕ × (Locals × List Stmt)) → narrow (lexemes text) ≡ Ok (v, from text at) → IsWhole text at v.1.0 v.1.1 → narrow (lexemes text) ≡ Ok (v, [])
whole text at v e w = e ∙ ap (λ ts. Ok (v, ts)) w.0

pub program_of-requires : goal.program_of-requires
program_of-requires c =
    let v : ℕ × (Locals × List Stmt) = (c.in-Ok.found.0.line, (c.in-Ok.found.0.locals, c.in-Ok.found.0.stmts)) in
    let w : IsWhole c.args.text.now c.in-Ok.found.1 v.1.0 v.1.1 = c.is_whole.ensures.0 c.if-not-is_whole.false in
    is_written c.args.text.now v (whole c.args.text.now c.in-Ok.found.1 v c.in-Ok.ensures w)

pub returns-clause-spelled : goal.returns-clause-spelled
returns-clause-spelled c =
    let v : ℕ × (Locals × List Stmt) = (c.in-Ok.found.0.line, (c.in-Ok.found.0.locals, c.in-Ok.found.0.stmts)) in
    let w : IsWhole c.args.text.now c.in-Ok.found.1 v.1.0 v.1.1 = c.is_whole.ensures.0 c.if-not-is_whole.false in
    let e = whole c.args.text.now c.in-Ok.found.1 v c.in-Ok.ensures w in
    subst (λ (q : Program). Spells c.args.text.now q × IsNarrow q) (sym c.in_ok-program.ensures) (is_spelled c.args.text.now v e, is_narrow c.args.text.now v e w.1 w.2)

pub returns-clause-only : goal.returns-clause-only
returns-clause-only c = λ p s n.
    let v : ℕ × (Locals × List Stmt) = (c.in-Ok.found.0.line, (c.in-Ok.found.0.locals, c.in-Ok.found.0.stmts)) in
    let w : IsWhole c.args.text.now c.in-Ok.found.1 v.1.0 v.1.1 = c.is_whole.ensures.0 c.if-not-is_whole.false in
    ap Some (c.in_ok-program.ensures ∙ the_one c.args.text.now v p (whole c.args.text.now c.in-Ok.found.1 v c.in-Ok.ensures w) s n)
