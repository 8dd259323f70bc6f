use Rattle.std.proofs.Common.{◌≡◌, ℕ, List, [], Bool, true, false, Some, Ok, sym, ap, subst, ◌∙◌}
use Rattle.cv_core.specs.declared.program.Program.{Program}
use Rattle.cv_text.specs.Given.{from}
use Rattle.cv_text.specs.Tokens.{lexemes}
use Rattle.cv_text.specs.Whole.{Spells}
use Rattle.cv_text.specs.ContractReader.{contract}
use Rattle.cv_text.specs.ProgramReader.{Parts, program_of, program, is_within}
use Rattle.cv_text.proofs.CoreAnswers.{is_spelled, is_written, the_one, fault_inside, fault_after, too_many, none_at_fault, none_before_more, none_too_deep}
use Rattle.cv_text.proofs.programs.read_core.Goals as goal

differ : (b : Bool) → b ≡ true → b ≡ false → ⊥
differ true h k = absurd cc
differ false h k = absurd cc

at_the_end : (text : List ℕ) (at : ℕ) (v : Parts) → program contract (lexemes text) ≡ Ok (Some v, from text at) → from text at ≡ [] → program contract (lexemes text) ≡ Ok (Some v, [])
at_the_end text at v e n = e ∙ ap (λ ts. Ok (Some v, ts)) n

pub returns-in-Err-Nesting-clause-only : goal.returns-in-Err-Nesting-clause-only
returns-in-Err-Nesting-clause-only c = λ p s w. none_too_deep c.args.text.now (from c.args.text.now c.in-Err-Nesting.field-0-0) p (rw c.in-Err-Nesting.field-0-is at c.in-Err-Nesting.ensures) s w

pub returns-in-Err-Nesting-clause-cause : goal.returns-in-Err-Nesting-clause-cause
returns-in-Err-Nesting-clause-cause c = too_many c.args.text.now (from c.args.text.now c.in-Err-Nesting.field-0-0) (rw c.in-Err-Nesting.field-0-is at c.in-Err-Nesting.ensures)

pub returns-in-Err-Fault-clause-only : goal.returns-in-Err-Fault-clause-only
returns-in-Err-Fault-clause-only c = λ p s w. none_at_fault c.args.text.now (from c.args.text.now c.in-Err-Fault.at) p (rw c.in-Err-Fault.field-0-is at c.in-Err-Fault.ensures) s w

pub returns-in-Err-Fault-clause-cause : goal.returns-in-Err-Fault-clause-cause
returns-in-Err-Fault-clause-cause c = fault_inside c.args.text.now c.in-Err-Fault.at c.fault_at.result (rw c.in-Err-Fault.field-0-is at c.in-Err-Fault.ensures) c.fault_at.ensures.place c.fault_at.ensures.line

pub returns-then-not-is_at_end-clause-only : goal.returns-then-not-is_at_end-clause-only
returns-then-not-is_at_end-clause-only c = λ p s w.
    let v : Parts = (c.in-Ok.found.0.globals, (c.in-Ok.found.0.literals, c.in-Ok.found.0.procs)) in
    none_before_more c.args.text.now v (from c.args.text.now c.in-Ok.found.1) p c.in-Ok.ensures (λ n. differ c.is_at_end.result (c.is_at_end.ensures.1 n) c.if-not-is_at_end.true) s w

pub returns-then-not-is_at_end-clause-cause : goal.returns-then-not-is_at_end-clause-cause
returns-then-not-is_at_end-clause-cause c =
    let v : Parts = (c.in-Ok.found.0.globals, (c.in-Ok.found.0.literals, c.in-Ok.found.0.procs)) in
    fault_after c.args.text.now v c.in-Ok.found.1 c.fault_at-then-not-is_at_end.result c.in-Ok.ensures (λ n. differ c.is_at_end.result (c.is_at_end.ensures.1 n) c.if-not-is_at_end.true) c.fault_at-then-not-is_at_end.ensures.place c.fault_at-then-not-is_at_end.ensures.line

pub program_of-program-requires : goal.program_of-program-requires
program_of-program-requires c =
    let v : Parts = (c.in-Ok.found.0.globals, (c.in-Ok.found.0.literals, c.in-Ok.found.0.procs)) in
    is_written c.args.text.now v (at_the_end c.args.text.now c.in-Ok.found.1 v c.in-Ok.ensures (c.is_at_end.ensures.0 c.if-not-is_at_end.false))

pub returns-clause-spelled : goal.returns-clause-spelled
returns-clause-spelled c =
    let v : Parts = (c.in-Ok.found.0.globals, (c.in-Ok.found.0.literals, c.in-Ok.found.0.procs)) in
    let e = at_the_end c.args.text.now c.in-Ok.found.1 v c.in-Ok.ensures (c.is_at_end.ensures.0 c.if-not-is_at_end.false) in
    subst (λ (q : Program). Spells c.args.text.now q × (is_within q ≡ true)) (sym c.program_of-program.ensures) (is_spelled c.args.text.now v e)

pub returns-clause-only : goal.returns-clause-only
returns-clause-only c = λ p s w.
    let v : Parts = (c.in-Ok.found.0.globals, (c.in-Ok.found.0.literals, c.in-Ok.found.0.procs)) in
    c.program_of-program.ensures ∙ the_one c.args.text.now v p (at_the_end c.args.text.now c.in-Ok.found.1 v c.in-Ok.ensures (c.is_at_end.ensures.0 c.if-not-is_at_end.false)) s w
