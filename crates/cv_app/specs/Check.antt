-- What `check FILE CERT` answers, where no device fails and memory suffices.
use Rattle.std.specs.Prelude.{◌≡◌, ℕ, List, Some, ◌⊎◌, Ok, Err}
use Rattle.cv_core.specs.declared.program.Program.{Program}
use Rattle.cv_core.specs.declared.faults.LimitName.TheVariants as limit
use Rattle.cv_text.specs.Narrow.{IsNarrow}
use Rattle.cv_check.specs.Accepted.{IsAccepted}
use Rattle.cv_meaning.specs.Clean.{Clean}
use Rattle.cv_io.specs.Files.{Files, HoldsMore}
use Rattle.cv_app.specs.declared.served.Served.{Served}
use Rattle.cv_app.specs.Built.{unbuilt_line}
use Rattle.cv_app.specs.Programs.{Gives, FileGives}
use Rattle.cv_app.specs.Texts.{accepted_text, rejected_text, not_built_text, limit_text}
use Rattle.cv_app.specs.Served.{printed, refused}

-- FILE stands for this program, which is a straight-line one
pub record StandsFor (files : Files) (name : List ℕ) (p : Program) : Type 0 where
  pub given : FileGives files name (Ok p)
  pub narrow : IsNarrow p

-- In the order in which they are tested:
pub data Checks (files : Files) (file cert : List ℕ) (answer : Served) : Type 0 where
  Refused : FileGives files file (Err answer) → Checks files file cert answer
  NotBuilt : (p : Program) (line : ℕ) → FileGives files file (Ok p) → unbuilt_line p ≡ Some line →
      answer ≡ refused 3 (not_built_text file line) → Checks files file cert answer
  CertificateTooLong : (p : Program) → StandsFor files file p → HoldsMore (Some files) cert 268435456 →
      answer ≡ refused 4 (limit_text limit.Certificate) → Checks files file cert answer
  Rejected : (p : Program) (text : List ℕ) → StandsFor files file p → Gives files cert 268435456 text →
      (IsAccepted p text → ⊥) → answer ≡ printed 1 rejected_text → Checks files file cert answer
  Accepted : (p : Program) (text : List ℕ) → StandsFor files file p → Gives files cert 268435456 text →
      IsAccepted p text → answer ≡ printed 0 accepted_text → Checks files file cert answer

-- the texts that it may print with a status
abbrev pub CheckPrints : ℕ → List ℕ → Type 0
CheckPrints status text = ((status ≡ 0) × (text ≡ accepted_text)) ⊎ ((status ≡ 1) × (text ≡ rejected_text))

-- The file gives a program, its text being within the levels, the program within the limits and well formed; it gives
-- no other; and the program is clean.
pub record HasCleanProgram (files : Files) (name : List ℕ) : Type 0 where
  pub program : Program
  pub gives : FileGives files name (Ok program)
  pub only : (other : Program) → FileGives files name (Ok other) → other ≡ program
  pub clean : Clean program

-- the file gives a program that `check` treats, so that it comes to load the certificate
pub record IsTreated (files : Files) (name : List ℕ) : Type 0 where
  pub program : Program
  pub stands : StandsFor files name program
