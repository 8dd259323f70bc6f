-- Words that spell `check`.
use Rattle.std.proofs.Common.{◌≡◌, ◌∙◌, ap, subst, ℕ, List, [], ◌∷◌, Option, IfSome, codes}
use Rattle.cv_io.specs.Files.{Files}
use Rattle.cv_app.specs.Check.{HasCleanProgram}
use Rattle.cv_app.specs.Commands.{Command, Check, Core, Run, command_of}

abbrev IsCheck : List (List ℕ) → List ℕ → List ℕ → Type 0
IsCheck words file cert = words ≡ codes "check" ∷ file ∷ cert ∷ []

check_is : (told : Option (List ℕ)) (words : List (List ℕ)) (file cert : List ℕ) (command : Command) → IsCheck words file cert → command ≡ command_of told words → command ≡ Check file cert
check_is told words file cert command e c = c ∙ ap (λ (ws : List (List ℕ)). command_of told ws) e

same_file : (file cert file' cert' : List ℕ) → Check file' cert' ≡ Check file cert → file' ≡ file
same_file file cert file' cert' e = cc

pub clean_file : (told : Option (List ℕ)) (words : List (List ℕ)) (store : Option Files) (file cert file' cert' : List ℕ) → IsCheck words file cert → Check file' cert' ≡ command_of told words →
    IfSome store (λ files. HasCleanProgram files file') → IfSome store (λ files. HasCleanProgram files file)
clean_file told words store file cert file' cert' e c h =
    subst (λ (name : List ℕ). IfSome store (λ files. HasCleanProgram files name)) (same_file file cert file' cert' (check_is told words file cert (Check file' cert') e c)) h

core_is_no_check : (file cert file' : List ℕ) → Core file' ≡ Check file cert → ⊥
core_is_no_check file cert file' e = cc

pub no_core : (told : Option (List ℕ)) (words : List (List ℕ)) (file cert file' : List ℕ) → IsCheck words file cert → Core file' ≡ command_of told words → ⊥
no_core told words file cert file' e c = core_is_no_check file cert file' (check_is told words file cert (Core file') e c)

run_is_no_check : (file cert file' : List ℕ) (steps : ℕ) (args : List (List ℕ)) (input : Option (List ℕ)) → Run file' steps args input ≡ Check file cert → ⊥
run_is_no_check file cert file' steps args input e = cc

pub no_run : (told : Option (List ℕ)) (words : List (List ℕ)) (file cert file' : List ℕ) (steps : ℕ) (args : List (List ℕ)) (input : Option (List ℕ)) → IsCheck words file cert →
    Run file' steps args input ≡ command_of told words → ⊥
no_run told words file cert file' steps args input e c = run_is_no_check file cert file' steps args input (check_is told words file cert (Run file' steps args input) e c)
