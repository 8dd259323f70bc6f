-- What the reader of programs answers.
use Rattle.std.proofs.Common.{◌≡◌, ℕ, ◌≤◌, Bool, true, false, ◌&&◌, List, [], ◌∷◌, ◌++◌, Option, Some, None, Result, Ok, Err, refl, sym, ap, subst, ◌∙◌}
use Rattle.std.specs.List.{list_all}
use Rattle.cv_core.specs.Grammar.{IsWritten, IsContract}
use Rattle.cv_core.specs.declared.program.Program.{Program}
use Rattle.cv_core.specs.declared.program.Contract.{Contract}
use Rattle.cv_core.specs.declared.program.Proc.{Proc}
use Rattle.cv_reading.specs.Reading.{Outcome, give}
use Rattle.cv_reading.specs.Deep.{Deep, changed}
use Rattle.cv_reading.specs.Fault.{FirstFault}
use Rattle.cv_reading.specs.Levels.{OpensTooMany}
use Rattle.cv_reading.proofs.Laws.{Made, ok_value, ok_rest}
use Rattle.cv_reading.proofs.Deep.{ReadsDeep, deep_as, deep_made, deep_goes, deep_gone, deep_fails, some_is, whole_is, whole_again, halted, left_over, given_up, not_halted, not_left}
use Rattle.cv_text.specs.declared.token.Key.TheVariants as key
use Rattle.cv_text.specs.declared.token.Sign.TheVariants as sign
use Rattle.cv_text.specs.declared.faults.TextFault.{TextFault}
use Rattle.cv_text.specs.Tokens.{Lexeme, word, mark, Line, lexemes}
use Rattle.cv_text.specs.Seen.{StandsAt}
use Rattle.cv_text.specs.Given.{from}
use Rattle.cv_text.specs.Lines.{line_of}
use Rattle.cv_text.specs.Clauses.{ContractText}
use Rattle.cv_text.specs.Whole.{ProgramText, Spells}
use Rattle.cv_text.specs.Levels.{contract_within, most_levels}
use Rattle.cv_text.specs.ProgramReader.{Parts, program_of, program, is_within}
use Rattle.cv_text.specs.CoreText.{OpensTooManyLevels, IsFirstFault}
use Rattle.cv_text.proofs.ProgramLaws.{begins_part, deep_program}
use Rattle.cv_text.proofs.Written.{AllFine, lexemes_fine}
use Rattle.cv_text.proofs.WrittenProgram.{program_fine}

abbrev within_levels : Contract → Bool
within_levels c = contract_within most_levels c

fault_by : (text : List ℕ) (at : ℕ) (fault : TextFault) → FirstFault ProgramText (lexemes text) (from text at) × (OpensTooManyLevels text → ⊥) → StandsAt text at fault.at → fault.line ≡ line_of text fault.at → IsFirstFault text fault
fault_by text at fault h s e = record {
  first = subst (λ (ts : Line). FirstFault ProgramText (lexemes text) ts) (sym s.same) h.0;
  place = record { within = s.within; same = refl; no_blank = s.no_blank };
  line = e;
  levels = h.1;
}

module _ (contract : Deep Lexeme Contract) (bars : Lexeme → Bool) (by : ReadsDeep false bars within_levels contract ContractText) (extern : bars (word key.Extern) ≡ false) (opening : bars (mark sign.OpenBrace) ≡ false) where
  abbrev core : Deep Lexeme Program
  core = changed program_of (program contract)

  deep_core : ReadsDeep false begins_part is_within core ProgramText
  deep_core = deep_as (deep_made program_of (deep_program contract within_levels bars by extern opening) (λ v. refl)) (λ ts c. c) (λ p text h. refl)
      (λ p text h. subst (λ (q : Program). ProgramText q text) (sym h.1) h.2)
      (λ p text h. ((p.globals, (p.literals, p.procs)), refl, h))

  read : (ts : Line) (v : Parts) (rest : Line) → program contract ts ≡ Ok (Some v, rest) → core ts ≡ Ok (Some (program_of v), rest)
  read ts v rest e = deep_goes (program contract ts) (λ w. give (Some (program_of w))) v rest e

  stopped : (ts at : Line) → program contract ts ≡ Err at → core ts ≡ Err at
  stopped ts at e = deep_fails (program contract ts) (λ w. give (Some (program_of w))) at e

  cut : (ts at : Line) → program contract ts ≡ Ok (None, at) → core ts ≡ Ok (None, at)
  cut ts at e = deep_gone (program contract ts) (λ w. give (Some (program_of w))) at e

  -- ---- what is read

  pub core_is : (text : List ℕ) (v : Parts) → program contract (lexemes text) ≡ Ok (Some v, []) → Spells text (program_of v) × (is_within (program_of v) ≡ true)
  core_is text v e = (let w = whole_is deep_core (lexemes text) (program_of v) (read (lexemes text) v [] e) in (record { tokens = w.0 }, w.1))

  pub core_written : ((c : Contract) (text : Line) → ContractText c text → AllFine text → IsContract c) → (text : List ℕ) (v : Parts) → program contract (lexemes text) ≡ Ok (Some v, []) → IsWritten (program_of v)
  core_written fine text v e = program_fine fine (program_of v) (lexemes text) (core_is text v e).0.tokens (lexemes_fine text)

  again : (text : List ℕ) (p : Program) → Spells text p → is_within p ≡ true → core (lexemes text) ≡ Ok (Some p, [])
  again text p s w = whole_again deep_core p (lexemes text) s.tokens w

  pub core_one : (text : List ℕ) (v : Parts) (p : Program) → program contract (lexemes text) ≡ Ok (Some v, []) → Spells text p → is_within p ≡ true → program_of v ≡ p
  core_one text v p e s w = sym (some_is p (program_of v) [] [] (sym (again text p s w) ∙ read (lexemes text) v [] e))

  -- ---- what is not read

  core_faults : (text : List ℕ) (at : Line) → program contract (lexemes text) ≡ Err at → FirstFault ProgramText (lexemes text) at × (OpensTooManyLevels text → ⊥)
  core_faults text at e = (halted deep_core (lexemes text) at (stopped (lexemes text) at e), not_halted deep_core (lexemes text) at (stopped (lexemes text) at e))

  core_leaves : (text : List ℕ) (v : Parts) (at : Line) → program contract (lexemes text) ≡ Ok (Some v, at) → (at ≡ [] → ⊥) → FirstFault ProgramText (lexemes text) at × (OpensTooManyLevels text → ⊥)
  core_leaves text v [] e more = absurd (more refl)
  core_leaves text v (t ∷ at) e more = (left_over deep_core (lexemes text) (program_of v) t at (read (lexemes text) v (t ∷ at) e), not_left deep_core (lexemes text) (program_of v) (t ∷ at) (read (lexemes text) v (t ∷ at) e))

  pub fault_in : (text : List ℕ) (at : ℕ) (fault : TextFault) → program contract (lexemes text) ≡ Err (from text at) → StandsAt text at fault.at → fault.line ≡ line_of text fault.at → IsFirstFault text fault
  fault_in text at fault e s l = fault_by text at fault (core_faults text (from text at) e) s l

  pub fault_behind : (text : List ℕ) (v : Parts) (at : ℕ) (fault : TextFault) → program contract (lexemes text) ≡ Ok (Some v, from text at) → (from text at ≡ [] → ⊥) → StandsAt text at fault.at → fault.line ≡ line_of text fault.at → IsFirstFault text fault
  fault_behind text v at fault e more s l = fault_by text at fault (core_leaves text v (from text at) e more) s l

  pub core_deep : (text : List ℕ) (at : Line) → program contract (lexemes text) ≡ Ok (None, at) → OpensTooManyLevels text
  core_deep text at e = given_up deep_core (lexemes text) at (cut (lexemes text) at e)

  -- ---- nothing within the levels is refused

  pub not_faulted : (text : List ℕ) (at : Line) (p : Program) → program contract (lexemes text) ≡ Err at → Spells text p → is_within p ≡ true → ⊥
  not_faulted text at p e s w = (let k = sym (again text p s w) ∙ stopped (lexemes text) at e in absurd cc)

  pub not_left_over : (text : List ℕ) (v : Parts) (at : Line) (p : Program) → program contract (lexemes text) ≡ Ok (Some v, at) → (at ≡ [] → ⊥) → Spells text p → is_within p ≡ true → ⊥
  not_left_over text v at p e more s w = more (sym (ok_rest (Some p) (Some (program_of v)) [] at (sym (again text p s w) ∙ read (lexemes text) v at e)))

  pub not_cut : (text : List ℕ) (at : Line) (p : Program) → program contract (lexemes text) ≡ Ok (None, at) → Spells text p → is_within p ≡ true → ⊥
  not_cut text at p e s w = (let k : Some p ≡ None = ok_value (Some p) None [] at (sym (again text p s w) ∙ cut (lexemes text) at e) in absurd cc)
