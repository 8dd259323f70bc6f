-- What each command answers, and what it may print.
use Rattle.std.specs.Prelude.{◌≡◌, ℕ, ◌⊎◌, List, Option, IfSome, IsSome}
use Rattle.cv_io.specs.Counts.{Rose}
use Rattle.cv_io.specs.Files.{Files}
use Rattle.cv_app.specs.declared.served.Served.{Served}
use Rattle.cv_app.specs.Commands.{Command, Check, Core, Run, Unknown}
use Rattle.cv_app.specs.Texts.{usage_text}
use Rattle.cv_app.specs.Served.{refused}
use Rattle.cv_app.specs.Check.{Checks, CheckPrints, IsTreated}
use Rattle.cv_app.specs.Core.{Cores, CorePrints}
use Rattle.cv_app.specs.Runs.{Runs, HasOtherWords, ReadsInput, RunEnds}

-- the answer where no device fails and memory suffices, over a store that tells its content
abbrev pub Answers : Option Files → Command → Served → Type 0
Answers told (Check file cert) answer = IfSome told (λ files. Checks files file cert answer)
Answers told (Core file) answer = IfSome told (λ files. Cores files file answer)
Answers told (Run file steps words input) answer = IfSome told (λ files. Runs files file steps words input answer)
Answers told Unknown answer = answer ≡ refused 2 usage_text

-- the texts that a command may print on standard output with a status
abbrev pub Prints : Command → ℕ → List ℕ → Type 0
Prints (Check file cert) status text = CheckPrints status text
Prints (Core file) status text = CorePrints status text
Prints (Run file steps words input) status text = (line : List ℕ) × RunEnds steps status text line
Prints Unknown status text = ⊥

-- the lines with which a command may end on standard error with a status
abbrev pub Ends : Command → ℕ → List ℕ → Type 0
Ends (Run file steps words input) status text = (out : List ℕ) × RunEnds steps status out text
Ends command status text = ⊥

-- ---- the order of refusals, where the store tells its content

-- the command comes to load CERT: FILE gives a program that is treated
abbrev pub LoadsCert : Option Files → List ℕ → Type 0
LoadsCert told file = IfSome told (λ files. IsTreated files file)

-- The count of a name rose that the command loads, when it comes to that: that of FILE, or that of CERT.
abbrev pub LoadFailed : Option Files → Command → (List ℕ → ℕ) → (List ℕ → ℕ) → Type 0
LoadFailed told (Check file cert) before after = Rose (before file) (after file) ⊎ (LoadsCert told file × Rose (before cert) (after cert))
LoadFailed told (Core file) before after = Rose (before file) (after file)
LoadFailed told (Run file steps words input) before after = Rose (before file) (after file)
LoadFailed told Unknown before after = ⊥

-- the command comes to read standard input
abbrev pub ReadsIn : Option Files → Command → Type 0
ReadsIn told (Run file steps words input) = IfSome told (λ files. ReadsInput files file words)
ReadsIn told command = ⊥

-- where the command comes to read standard input, its bytes are told
abbrev pub IsTold : Files → Command → Type 0
IsTold files (Run file steps words input) = ReadsInput files file words → IsSome input
IsTold files command = Unit {0}

-- the count of a stream that only `run` uses so rose
abbrev pub RunFailed : Command → ℕ → ℕ → Type 0
RunFailed (Run file steps words input) before after = Rose before after
RunFailed command before after = ⊥

-- the words are those of no command, or not those that main takes
abbrev pub IsUsage : Option Files → Command → Type 0
IsUsage told Unknown = Unit {0}
IsUsage told (Run file steps words input) = IfSome told (λ files. HasOtherWords files file words)
IsUsage told command = ⊥
