-- What a reader of nested parts gives, and the reading that it follows.
use Rattle.std.specs.Prelude.{◌≡◌, ℕ, List, Option, Some, None, Result, Ok, Err}
use Rattle.cv_reading.specs.Reading.{Outcome}
use Rattle.cv_text.specs.declared.cursor.ReadError.{ReadError}
use Rattle.cv_text.specs.declared.cursor.ReadError.TheVariants as flat
use Rattle.cv_text.specs.declared.nesting.NestedError.{NestedError}
use Rattle.cv_text.specs.declared.nesting.NestedError.TheVariants as errors
use Rattle.cv_text.specs.Tokens.{Lexeme}
use Rattle.cv_text.specs.Given.{from}

abbrev pub nested : ReadError → NestedError
nested flat.Memory = errors.Memory
nested (flat.Fault at) = errors.Fault at

abbrev pub FailsNested : {Y : Type 0} → List ℕ → NestedError → Outcome Lexeme (Option Y) → Type 0
FailsNested text errors.Memory read = Unit {0}
FailsNested text (errors.Fault at) read = read ≡ Err (from text at)
FailsNested text (errors.Nesting at) read = read ≡ Ok (None, from text at)

-- The reading gave the same value, and the tokens left are those from the place that is returned on; or it stopped at the fault,
-- or gave up where the level too many opens.
abbrev pub GivesNested : {X Y : Type 0} → List ℕ → (X → Y × ℕ) → Result X NestedError → Outcome Lexeme (Option Y) → Type 0
GivesNested text view (Ok x) read = read ≡ Ok (Some (view x).0, from text (view x).1)
GivesNested text view (Err e) read = FailsNested text e read
