-- The first wrong line of a text that is no certificate's.
use Rattle.std.specs.Prelude.{◌≡◌, ℕ, zero, suc, ◌<◌, ◌==◌, if◌then◌else◌, List, [], ◌∷◌, ◌++◌, Option, Some, None, option_map, IsSomeAnd}
use Rattle.cv_cert.specs.declared.fault.CertError.{CertError}
use Rattle.cv_cert.specs.declared.fault.CertError.TheVariants.{Line, Memory}
use Rattle.cv_cert.specs.Certificate.{Certificate, IsCertificate}
use Rattle.cv_cert.specs.Text.{text_of}

-- these bytes begin the text of some certificate
abbrev pub BeginsText : List ℕ → Type 0
BeginsText bytes = (c : Certificate) × (tail : List ℕ) × IsCertificate c × (text_of c ≡ bytes ++ tail)

-- the first n lines of a text with their newlines, where there are so many
abbrev pub first_lines : ℕ → List ℕ → Option (List ℕ)
first_lines zero text = Some []
first_lines (suc n) [] = None
first_lines (suc n) (b ∷ bytes) = option_map (λ rest. b ∷ rest) (first_lines (if b == 10 then n else suc n) bytes)

-- the first n lines are there, each with its newline, and begin the text of some certificate
abbrev pub IsRightTo : List ℕ → ℕ → Type 0
IsRightTo text n = IsSomeAnd (first_lines n text) BeginsText

-- line n, from 1, is the first that is wrong
pub record IsFirstWrong (text : List ℕ) (n : ℕ) : Type 0 where
  pub before : (k : ℕ) → k < n → IsRightTo text k
  pub wrong : ¬ (IsRightTo text n)

-- what holds of the line that an error names
abbrev pub IfLine : CertError → (ℕ → Type 0) → Type 0
IfLine (Line n) P = P n
IfLine Memory P = Unit {0}
