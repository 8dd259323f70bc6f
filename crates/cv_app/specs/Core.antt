-- What `core FILE` answers, where no device fails and memory suffices.
use Rattle.std.specs.Prelude.{◌≡◌, ℕ, List, Ok, Err}
use Rattle.cv_core.specs.declared.program.Program.{Program}
use Rattle.cv_text.specs.Printed.{program_text}
use Rattle.cv_io.specs.Files.{Files}
use Rattle.cv_app.specs.declared.served.Served.{Served}
use Rattle.cv_app.specs.Programs.{Found, FileGives}
use Rattle.cv_app.specs.Served.{printed}

-- the printed text of the program, or the refusal of the file
abbrev pub core_answer : Found → Served
core_answer (Ok p) = printed 0 (program_text p)
core_answer (Err refusal) = refusal

pub record Cores (files : Files) (file : List ℕ) (answer : Served) : Type 0 where
  pub found : Found
  pub gives : FileGives files file found
  pub is : answer ≡ core_answer found

-- the texts that it may print with a status
abbrev pub CorePrints : ℕ → List ℕ → Type 0
CorePrints status text = (status ≡ 0) × ((p : Program) × (text ≡ program_text p))
