-- What the reader of CoreC text answers.
use Rattle.std.specs.Prelude.{◌≡◌, ℕ, List, Result, Ok, Err}
use Rattle.cv_core.specs.declared.program.Program.{Program}
use Rattle.cv_reading.specs.Fault.{FirstFault}
use Rattle.cv_reading.specs.Levels.{OpensTooMany}
use Rattle.cv_text.specs.declared.faults.TextFault.{TextFault}
use Rattle.cv_text.specs.declared.faults.TextError.{TextError}
use Rattle.cv_text.specs.declared.faults.TextError.TheVariants as errors
use Rattle.cv_text.specs.Tokens.{lexemes}
use Rattle.cv_text.specs.Seen.{StandsAt}
use Rattle.cv_text.specs.Given.{from}
use Rattle.cv_text.specs.Whole.{ProgramText}
use Rattle.cv_text.specs.Lines.{line_of}
use Rattle.cv_text.specs.ProgramReader.{is_within}

-- The text opens a level too many before any fault.
abbrev pub OpensTooManyLevels : List ℕ → Type 0
OpensTooManyLevels text = OpensTooMany ProgramText is_within (lexemes text)

-- At this place stands the first token that no text of the grammar can have there, or the text ends too early; before it no level
-- too many is opened.
pub record IsFirstFault (text : List ℕ) (fault : TextFault) : Type 0 where
  pub first : FirstFault ProgramText (lexemes text) (from text fault.at)
  pub place : StandsAt text fault.at fault.at
  pub line : fault.line ≡ line_of text fault.at
  pub levels : OpensTooManyLevels text → ⊥

-- Each error has its cause; want of memory is free.
abbrev pub CausedBy : List ℕ → TextError → Type 0
CausedBy text errors.Memory = Unit {0}
CausedBy text errors.Nesting = OpensTooManyLevels text
CausedBy text (errors.Fault fault) = IsFirstFault text fault

-- The answer is this program, or want of memory.
abbrev pub Answers : Program → Result Program TextError → Type 0
Answers p (Ok q) = q ≡ p
Answers p (Err errors.Memory) = Unit {0}
Answers p (Err errors.Nesting) = ⊥
Answers p (Err (errors.Fault fault)) = ⊥
