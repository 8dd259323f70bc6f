-- What the reader of a contract alone answers.
use Rattle.std.specs.Prelude.{◌≡◌, ℕ, Bool, true, List, Result, Ok, Err}
use Rattle.cv_core.specs.declared.program.Contract.{Contract}
use Rattle.cv_reading.specs.Fault.{FirstFault}
use Rattle.cv_reading.specs.Levels.{OpensTooMany}
use Rattle.cv_text.specs.declared.faults.TextFault.{TextFault}
use Rattle.cv_text.specs.declared.faults.TextError.{TextError}
use Rattle.cv_text.specs.declared.faults.TextError.TheVariants as errors
use Rattle.cv_text.specs.Tokens.{lexemes}
use Rattle.cv_text.specs.Seen.{StandsAt}
use Rattle.cv_text.specs.Given.{from}
use Rattle.cv_text.specs.Clauses.{ContractText}
use Rattle.cv_text.specs.Levels.{contract_within, most_levels}
use Rattle.cv_text.specs.Lines.{line_of}

-- These bytes are the text of this contract.
pub record SpellsContract (bytes : List ℕ) (c : Contract) : Type 0 where
  pub tokens : ContractText c (lexemes bytes)

-- none of its pointers and terms has more levels than a text may open
abbrev pub is_shallow : Contract → Bool
is_shallow c = contract_within most_levels c

-- The text opens a level too many before any fault.
abbrev pub ContractTooDeep : List ℕ → Type 0
ContractTooDeep text = OpensTooMany ContractText is_shallow (lexemes text)

-- At this place stands the first token that no text of a contract can have there, or the text ends too early; before it no level
-- too many is opened.
pub record IsContractFault (text : List ℕ) (fault : TextFault) : Type 0 where
  pub first : FirstFault ContractText (lexemes text) (from text fault.at)
  pub place : StandsAt text fault.at fault.at
  pub line : fault.line ≡ line_of text fault.at
  pub levels : ContractTooDeep text → ⊥

-- Each error has its cause; want of memory is free.
abbrev pub ContractErrs : List ℕ → TextError → Type 0
ContractErrs text errors.Memory = Unit {0}
ContractErrs text errors.Nesting = ContractTooDeep text
ContractErrs text (errors.Fault fault) = IsContractFault text fault

-- The answer is this contract, or want of memory.
abbrev pub AnswersContract : Contract → Result Contract TextError → Type 0
AnswersContract c (Ok d) = d ≡ c
AnswersContract c (Err errors.Memory) = Unit {0}
AnswersContract c (Err errors.Nesting) = ⊥
AnswersContract c (Err (errors.Fault fault)) = ⊥
