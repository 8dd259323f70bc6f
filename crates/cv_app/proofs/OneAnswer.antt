-- A command has one answer.
use Rattle.std.proofs.Common.{◌≡◌, ℕ, List, Option, Some, IfSome, sym, ◌∙◌}
use Rattle.cv_io.specs.Files.{Files}
use Rattle.cv_app.specs.declared.served.Served.{Served}
use Rattle.cv_app.specs.Answers.{Answers, IsTold}
use Rattle.cv_app.specs.Commands.{Command, Check, Core, Run, Unknown}
use Rattle.cv_app.specs.Sinks.{Becomes}
use Rattle.cv_app.proofs.CheckLemmas.{one_check}
use Rattle.cv_app.proofs.FileLemmas.{one_core}
use Rattle.cv_app.proofs.RunLemmas.{one_run}

pub one_answer : (files : Files) (command : Command) (answer other : Served) → IsTold files command → Answers (Some files) command answer → Answers (Some files) command other →
    other ≡ answer
one_answer files (Check file cert) answer other t h k = one_check files file cert other answer k h
one_answer files (Core file) answer other t h k = one_core files file answer other h k
one_answer files (Run file steps words input) answer other t h k = one_run files file steps words input answer other t h k
one_answer files Unknown answer other t h k = k ∙ sym h

-- what becomes of each answer of a command
abbrev pub Exactly : Option Files → Command → ℕ → Option (List ℕ) → Option (List ℕ) → Type 0
Exactly told command status out out' = IfSome told (λ files. IsTold files command → (answer : Served) → Answers (Some files) command answer → Becomes answer status out out')
