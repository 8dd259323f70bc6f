use Rattle.std.proofs.Common.{◌≡◌, ℕ, List, [], Bool, true, false, Some, Ok, sym, ap, subst, ◌∙◌}
use Rattle.cv_core.specs.declared.program.Contract.{Contract}
use Rattle.cv_text.specs.Given.{from}
use Rattle.cv_text.specs.Tokens.{lexemes}
use Rattle.cv_text.specs.ContractReader.{contract}
use Rattle.cv_text.proofs.ContractAnswers.{contract_spelled, contract_formed, the_contract, no_contract_at_fault, no_contract_too_deep, no_contract_before_more, contract_fault, contract_fault_behind, contract_too_deep}
use Rattle.cv_text.proofs.contract.read_contract.Goals as goal

differ : (b : Bool) → b ≡ true → b ≡ false → ⊥
differ true h k = absurd cc
differ false h k = absurd cc

at_the_end : (text : List ℕ) (at : ℕ) (d : Contract) → contract (lexemes text) ≡ Ok (Some d, from text at) → from text at ≡ [] → contract (lexemes text) ≡ Ok (Some d, [])
at_the_end text at d e n = e ∙ ap (λ ts. Ok (Some d, ts)) n

pub returns-in-Err-Nesting-clause-only : goal.returns-in-Err-Nesting-clause-only
returns-in-Err-Nesting-clause-only c = λ d s w. no_contract_too_deep c.args.text.now d (from c.args.text.now c.in-Err-Nesting.field-0-0) (rw c.in-Err-Nesting.field-0-is at c.in-Err-Nesting.ensures) s w

pub returns-in-Err-Nesting-clause-cause : goal.returns-in-Err-Nesting-clause-cause
returns-in-Err-Nesting-clause-cause c = contract_too_deep c.args.text.now (from c.args.text.now c.in-Err-Nesting.field-0-0) (rw c.in-Err-Nesting.field-0-is at c.in-Err-Nesting.ensures)

pub returns-in-Err-Fault-clause-only : goal.returns-in-Err-Fault-clause-only
returns-in-Err-Fault-clause-only c = λ d s w. no_contract_at_fault c.args.text.now d (from c.args.text.now c.in-Err-Fault.at) (rw c.in-Err-Fault.field-0-is at c.in-Err-Fault.ensures) s w

pub returns-in-Err-Fault-clause-cause : goal.returns-in-Err-Fault-clause-cause
returns-in-Err-Fault-clause-cause c = contract_fault c.args.text.now c.in-Err-Fault.at c.fault_at.result (rw c.in-Err-Fault.field-0-is at c.in-Err-Fault.ensures) c.fault_at.ensures.place c.fault_at.ensures.line

pub returns-then-not-is_at_end-clause-only : goal.returns-then-not-is_at_end-clause-only
returns-then-not-is_at_end-clause-only c = λ d s w. no_contract_before_more c.args.text.now d c.in-Ok.found.0 (from c.args.text.now c.in-Ok.found.1) c.in-Ok.ensures (λ n. differ c.is_at_end.result (c.is_at_end.ensures.1 n) c.if-not-is_at_end.true) s w

pub returns-then-not-is_at_end-clause-cause : goal.returns-then-not-is_at_end-clause-cause
returns-then-not-is_at_end-clause-cause c = contract_fault_behind c.args.text.now c.in-Ok.found.0 c.in-Ok.found.1 c.fault_at-then-not-is_at_end.result c.in-Ok.ensures (λ n. differ c.is_at_end.result (c.is_at_end.ensures.1 n) c.if-not-is_at_end.true) c.fault_at-then-not-is_at_end.ensures.place c.fault_at-then-not-is_at_end.ensures.line

pub returns-clause-spelled : goal.returns-clause-spelled
returns-clause-spelled c = contract_spelled c.args.text.now c.in-Ok.found.0 (at_the_end c.args.text.now c.in-Ok.found.1 c.in-Ok.found.0 c.in-Ok.ensures (c.is_at_end.ensures.0 c.if-not-is_at_end.false))

pub returns-clause-formed : goal.returns-clause-formed
returns-clause-formed c = contract_formed c.args.text.now c.in-Ok.found.0 (at_the_end c.args.text.now c.in-Ok.found.1 c.in-Ok.found.0 c.in-Ok.ensures (c.is_at_end.ensures.0 c.if-not-is_at_end.false))

pub returns-clause-only : goal.returns-clause-only
returns-clause-only c = λ d s w. the_contract c.args.text.now d c.in-Ok.found.0 (at_the_end c.args.text.now c.in-Ok.found.1 c.in-Ok.found.0 c.in-Ok.ensures (c.is_at_end.ensures.0 c.if-not-is_at_end.false)) s w
