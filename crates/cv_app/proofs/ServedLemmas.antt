-- What is served is the one answer of a command.
use Rattle.std.proofs.Common.{Bool, true, false, nat_eq, if◌then◌else◌, codes, ◌≡◌, ◌≢◌, ℕ, List, [], ◌∷◌, Option, None, Some, IfSome, refl, sym, ◌∙◌, ap, subst, rules, arith, inl, inr}
use Rattle.cv_io.specs.Files.{Files}
use Rattle.cv_io.specs.Streams.{Appends}
use Rattle.cv_app.specs.declared.served.Served.{Served}
use Rattle.std.specs.Str.{bytes_eq}
use Rattle.cv_app.specs.Commands.{Command, Check, Core, Run, Unknown, run_command, command_of}
use Rattle.cv_app.specs.Numbers.{steps_of}
use Rattle.cv_app.specs.Answers.{Answers, IsTold}
use Rattle.cv_app.specs.Sinks.{IsSettled, Answered, Becomes, ServedOf, PrintsBy, Writes}
use Rattle.cv_app.specs.Sinks as sinks
use Rattle.cv_app.proofs.OneAnswer.{one_answer, Exactly}
use Rattle.cv_app.proofs.Outcomes.{whole_prefix}

abbrev served_of : ℕ → List ℕ → List ℕ → Served
served_of status out errs = record { status = status; out = out; errs = errs }

same_served : (served answer : Served) → served.status ≡ answer.status → Appends (Some []) answer.out (Some served.out) → Writes (Some []) answer.errs (Some served.errs) 0 0 → served ≡ answer
same_served served answer e o (inl w) =
    let printed_same : served.out ≡ answer.out = cc in
    let refused_same : served.errs ≡ answer.errs = cc in
    ap (λ (n : ℕ). served_of n served.out served.errs) e ∙ ap (λ (text : List ℕ). served_of answer.status text served.errs) printed_same
    ∙ ap (λ (text : List ℕ). served_of answer.status answer.out text) refused_same
same_served served answer e o (inr cut) = absurd (grind arith)

-- what was served is the answer that was given
given_served : (files : Files) (command : Command) (served answer : Served) → IsTold files command → Answers (Some files) command answer → served.status ≡ answer.status →
    Answered (Some files) command served.status (Some []) (Some served.out) (Some []) (Some served.errs) 0 0 → served ≡ answer
given_served files command served answer t h same given = same_served served given.answer given.status_is given.printed given.refused ∙ one_answer files command answer given.answer t h given.is

-- what was served is the answer, where neither a fault nor want of memory came between
pub served_answer : (told : Option Files) (command : Command) (served : Served) →
    (IsSettled served.status → Answered told command served.status (Some []) (Some served.out) (Some []) (Some served.errs) 0 0) → IsSettled served.status → Answers told command served
served_answer told command served answered calm =
    let given = answered calm in
    subst (λ (s : Served). Answers told command s) (sym (same_served served given.answer given.status_is given.printed given.refused)) given.is

same_number : (m n : ℕ) → nat_eq m n ≡ true → m ≡ n
same_number m n e = grind arith

other_number : (m n : ℕ) → nat_eq m n ≡ false → m ≢ n
other_number m n e same = absurd (grind arith)

-- the same of what is equal
pub exactly_at : (told : Option Files) (command command' : Command) (status : ℕ) (out out' sink sink' : Option (List ℕ)) → Exactly told command status out out' →
    command ≡ command' → out ≡ sink → out' ≡ sink' → Exactly told command' status sink sink'
exactly_at told command command' status out out' sink sink' h c o o' =
    subst (λ (x : Option (List ℕ)). Exactly told command' status sink x) o'
    (subst (λ (x : Option (List ℕ)). Exactly told command' status x out') o (subst (λ (x : Command). Exactly told x status out out') c h))

same_text : (text : List ℕ) → Some text ≡ Some [] → text ≡ []
same_text text e = cc

pub served_exactly : (told : Option Files) (command : Command) (served : Served) → served.status ≢ 6 →
    (IsSettled served.status → Answered told command served.status (Some []) (Some served.out) (Some []) (Some served.errs) 0 0) →
    Exactly told command served.status (Some []) (Some served.out) → PrintsBy command served.status (Some []) (Some served.out) → ((files : Files) → IsTold files command) →
    IfSome told (λ files. (answer : Served) → Answers (Some files) command answer → ServedOf answer served)
served_exactly None command served quiet answered exactly prints known = search rules
served_exactly (Some files) command served quiet answered exactly prints known =
    λ answer h. by_fate answer h (exactly (known files) answer h) (nat_eq served.status 5) (nat_eq served.status 7) refl refl
  where
    by_fate : (answer : Served) → Answers (Some files) command answer → Becomes answer served.status (Some []) (Some served.out) → (five seven : Bool) → nat_eq served.status 5 ≡ five → nat_eq served.status 7 ≡ seven →
        ServedOf answer served
    by_fate answer h (sinks.ReadFault s o) five seven e f = sinks.LoadFault s (same_text served.out o)
    by_fate answer h (sinks.WriteFault a s o) five seven e f = absurd (quiet s)
    by_fate answer h (sinks.NoMemory s o) five seven e f = sinks.OutOfMemory s o
    by_fate answer h (sinks.Given s o) true seven e f =
        let here = same_number served.status 5 e in
        sinks.LoadFault here (same_text served.out (prints.nothing (omega (arith, here)) (omega (arith, here))))
    by_fate answer h (sinks.Given s o) false true e f = sinks.OutOfMemory (same_number served.status 7 f) (whole_prefix (Some []) (Some served.out) answer.out o)
    by_fate answer h (sinks.Given s o) false false e f =
        sinks.AllServed (given_served files command served answer (known files) h s (answered (record { no_read_fault = other_number served.status 5 e; no_write_fault = quiet; memory = other_number served.status 7 f })))

-- ---- the input is told

told_core : (files : Files) (named : Bool) (file : List ℕ) → IsTold files (if named then Core file else Unknown)
told_core files true file = tt
told_core files false file = tt

told_run : (files : Files) (named : Bool) (input file : List ℕ) (steps : Option ℕ) (args : List (List ℕ)) → IsTold files (if named then run_command (Some input) file steps args else Unknown)
told_run files false input file steps args = tt
told_run files true input file None args = tt
told_run files true input file (Some steps) args = λ reads. search rules

told_check : (files : Files) (named other : Bool) (input file cert : List ℕ) → IsTold files (if named then Check file cert else (if other then run_command (Some input) file (steps_of cert) [] else Unknown))
told_check files true other input file cert = tt
told_check files false other input file cert = told_run files other input file (steps_of cert) []

-- a command over an input that is told
pub told_command : (input : List ℕ) (words : List (List ℕ)) (files : Files) → IsTold files (command_of (Some input) words)
told_command input [] files = tt
told_command input (name ∷ []) files = tt
told_command input (name ∷ file ∷ []) files = told_core files (bytes_eq name (codes "core")) file
told_command input (name ∷ file ∷ cert ∷ []) files = told_check files (bytes_eq name (codes "check")) (bytes_eq name (codes "run")) input file cert
told_command input (name ∷ file ∷ steps ∷ arg ∷ args) files = told_run files (bytes_eq name (codes "run")) input file (steps_of steps) (arg ∷ args)
