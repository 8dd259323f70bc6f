-- What the reader of programs answers, with the reader of contracts that there is.
use Rattle.std.proofs.Common.{◌≡◌, ℕ, Bool, true, false, List, [], Option, Some, None, Ok, Err, refl}
use Rattle.cv_core.specs.Grammar.{IsWritten}
use Rattle.cv_core.specs.declared.program.Program.{Program}
use Rattle.cv_text.specs.declared.faults.TextFault.{TextFault}
use Rattle.cv_text.specs.Tokens.{Line, lexemes}
use Rattle.cv_text.specs.Seen.{StandsAt}
use Rattle.cv_text.specs.Given.{from}
use Rattle.cv_text.specs.Lines.{line_of}
use Rattle.cv_text.specs.Whole.{Spells}
use Rattle.cv_text.specs.ContractReader.{contract}
use Rattle.cv_text.specs.ProgramReader.{Parts, program_of, program, is_within}
use Rattle.cv_text.specs.CoreText.{OpensTooManyLevels, IsFirstFault}
use Rattle.cv_text.proofs.ContractLists.{contract_bars, reads_contract}
use Rattle.cv_text.proofs.WrittenContract.{contract_fine}
use Rattle.cv_text.proofs.CoreLaws.{core_is, core_written, core_one, fault_in, fault_behind, core_deep, not_faulted, not_left_over, not_cut}

pub is_spelled : (text : List ℕ) (v : Parts) → program contract (lexemes text) ≡ Ok (Some v, []) → Spells text (program_of v) × (is_within (program_of v) ≡ true)
is_spelled text v e = core_is contract contract_bars reads_contract refl refl text v e

pub is_written : (text : List ℕ) (v : Parts) → program contract (lexemes text) ≡ Ok (Some v, []) → IsWritten (program_of v)
is_written text v e = core_written contract contract_bars reads_contract refl refl contract_fine text v e

pub the_one : (text : List ℕ) (v : Parts) (p : Program) → program contract (lexemes text) ≡ Ok (Some v, []) → Spells text p → is_within p ≡ true → program_of v ≡ p
the_one text v p e s w = core_one contract contract_bars reads_contract refl refl text v p e s w

pub fault_inside : (text : List ℕ) (at : ℕ) (fault : TextFault) → program contract (lexemes text) ≡ Err (from text at) → StandsAt text at fault.at → fault.line ≡ line_of text fault.at → IsFirstFault text fault
fault_inside text at fault e s l = fault_in contract contract_bars reads_contract refl refl text at fault e s l

pub fault_after : (text : List ℕ) (v : Parts) (at : ℕ) (fault : TextFault) → program contract (lexemes text) ≡ Ok (Some v, from text at) → (from text at ≡ [] → ⊥) → StandsAt text at fault.at → fault.line ≡ line_of text fault.at → IsFirstFault text fault
fault_after text v at fault e more s l = fault_behind contract contract_bars reads_contract refl refl text v at fault e more s l

pub too_many : (text : List ℕ) (at : Line) → program contract (lexemes text) ≡ Ok (None, at) → OpensTooManyLevels text
too_many text at e = core_deep contract contract_bars reads_contract refl refl text at e

pub none_at_fault : (text : List ℕ) (at : Line) (p : Program) → program contract (lexemes text) ≡ Err at → Spells text p → is_within p ≡ true → ⊥
none_at_fault text at p e s w = not_faulted contract contract_bars reads_contract refl refl text at p e s w

pub none_before_more : (text : List ℕ) (v : Parts) (at : Line) (p : Program) → program contract (lexemes text) ≡ Ok (Some v, at) → (at ≡ [] → ⊥) → Spells text p → is_within p ≡ true → ⊥
none_before_more text v at p e more s w = not_left_over contract contract_bars reads_contract refl refl text v at p e more s w

pub none_too_deep : (text : List ℕ) (at : Line) (p : Program) → program contract (lexemes text) ≡ Ok (None, at) → Spells text p → is_within p ≡ true → ⊥
none_too_deep text at p e s w = not_cut contract contract_bars reads_contract refl refl text at p e s w
