-- What a text is read as: a program, or why it is none.
use Rattle.std.specs.Prelude.{◌≡◌, ℕ, true, List, Result, Ok, Err}
use Rattle.cv_core.specs.declared.program.Program.{Program}
use Rattle.cv_text.specs.declared.faults.TextFault.{TextFault}
use Rattle.cv_text.specs.Whole.{Spells}
use Rattle.cv_text.specs.ProgramReader.{is_within}
use Rattle.cv_text.specs.CoreText.{OpensTooManyLevels, IsFirstFault}

-- why a text is no program: its first fault is on this line, or a level too many is opened
pub data Unread : Type 0 where
  Faulty : (line : ℕ) → Unread
  Nested : Unread

-- The text spells this program within the levels, or has its first fault on this line, or opens a level too many.
abbrev pub IsReading : List ℕ → Result Program Unread → Type 0
IsReading text (Ok p) = Spells text p × (is_within p ≡ true)
IsReading text (Err (Faulty line)) = (fault : TextFault) × IsFirstFault text fault × (line ≡ fault.line)
IsReading text (Err Nested) = OpensTooManyLevels text
