-- What a reader of the code gives, and the reading that it follows.
use Rattle.std.specs.Prelude.{◌≡◌, ℕ, List, drop, Result, Ok, Err}
use Rattle.cv_reading.specs.Reading.{Outcome}
use Rattle.cv_text.specs.declared.cursor.ReadError.{ReadError}
use Rattle.cv_text.specs.declared.cursor.ReadError.TheVariants as errors
use Rattle.cv_text.specs.Tokens.{Lexeme, lexemes}

-- the tokens at and behind a place
abbrev pub from : List ℕ → ℕ → List Lexeme
from text at = lexemes (drop at text)

abbrev pub Fails : {Y : Type 0} → List ℕ → ReadError → Outcome Lexeme Y → Type 0
Fails text errors.Memory read = Unit {0}
Fails text (errors.Fault at) read = read ≡ Err (from text at)

-- The reading gave the same value, and the tokens left are those from the place that is returned on; or it stopped at the fault.
abbrev pub Gives : {X Y : Type 0} → List ℕ → (X → Y × ℕ) → Result X ReadError → Outcome Lexeme Y → Type 0
Gives text view (Ok x) read = read ≡ Ok ((view x).0, from text (view x).1)
Gives text view (Err e) read = Fails text e read
