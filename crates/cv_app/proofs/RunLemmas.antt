-- The answers of `run`.
use Rattle.std.proofs.Common.{Bool, false, true, ◌≡◌, ℕ, ◌+◌, ◌<◌, ◌≤◌, ◌⊎◌, List, length, Option, None, Some, Ok, Err, IfSome, IsSome, refl, sym, ◌∙◌, ap, rules, arith, subst, inl, inr}
use Rattle.cv_core.specs.declared.faults.LimitName.TheVariants as limit
use Rattle.cv_core.specs.declared.program.Program.{Program}
use Rattle.cv_meaning.specs.declared.ends.Arg.{Arg}
use Rattle.cv_meaning.specs.declared.ends.RunEnd.{RunEnd}
use Rattle.cv_meaning.specs.declared.ends.RunEnd.TheVariants as end
use Rattle.cv_meaning.specs.Run.{run_main}
use Rattle.cv_interp.specs.Level.{Stack}
use Rattle.cv_interp.specs.Machine.{Outcome, seen, end as machine_end}
use Rattle.cv_interp.specs.Start.{start_values, start_memory}
use Rattle.cv_io.specs.Files.{Files}
use Rattle.cv_app.specs.declared.served.Served.{Served}
use Rattle.cv_app.specs.declared.fault.Fault.{Fault}
use Rattle.cv_app.specs.declared.fault.Fault.TheVariants.{Usage, Limit}
use Rattle.cv_app.specs.Answers.{Answers, ReadsIn}
use Rattle.cv_app.specs.Calls.{reads_input}
use Rattle.cv_app.specs.Commands.{Run}
use Rattle.cv_app.specs.Ends.{end_status, end_text}
use Rattle.cv_app.specs.Faults.{refusal_of, input_limit, InputRefused, UnlessHindered}
use Rattle.cv_app.specs.Programs.{FileGives}
use Rattle.cv_app.specs.Runs.{args_for, world_of, ends, run_served, IsInput, ProgramRuns, OtherWords, InputTooLong, Ended, Runs, Refused, OfProgram, HasOtherWords, ReadsInput, RunEnds}
use Rattle.cv_app.specs.Sinks.{IsEnding, IsUntouched}
use Rattle.cv_app.proofs.FileLemmas.{same_program, same_refusal, no_program}
use Rattle.cv_app.proofs.Hindered.{not_read}

-- ---- there is one answer, where an input that is read is told

none_told : (told : Option (List ℕ)) → told ≡ None → IsSome told → ⊥
none_told None e t = search rules
none_told (Some bytes) e t = absurd cc

same_input : (told : Option (List ℕ)) (asked : Bool) (i j : List ℕ) → (asked ≡ true → IsSome told) → IsInput asked told i → IsInput asked told j → j ≡ i
same_input (Some bytes) true i j t h k = k.0 ∙ sym h.0
same_input None true i j t h k = absurd (none_told None refl (t refl))
same_input told false i j t h k = k ∙ sym h

long_input : (told : Option (List ℕ)) (asked : Bool) (i : List ℕ) → (asked ≡ true → IsSome told) → asked ≡ true → IfSome told (λ bytes. 1048576 < length bytes) →
    IsInput asked told i → ⊥
long_input (Some bytes) true i t e more h = let few = h.1 in let same : length i ≡ length bytes = ap (λ (l : List ℕ). length l) h.0 in omega (arith, more, few, same)
long_input None true i t e more h = none_told None refl (t refl)
long_input told false i t e more h = absurd cc

no_args : {A : Type 0} (o : Option A) (a : A) → o ≡ None → o ≡ Some a → ⊥
no_args o a e f = cc

-- where the words are main's and the program reads input, it is told
abbrev Known : Program → List (List ℕ) → Option (List ℕ) → Type 0
Known P words told = (args : List Arg) → args_for P words ≡ Some args → reads_input P ≡ true → IsSome told

one_run_of : (P : Program) (steps : ℕ) (words : List (List ℕ)) (told : Option (List ℕ)) (answer other : Served) → Known P words told → ProgramRuns P steps words told answer →
    ProgramRuns P steps words told other → other ≡ answer
one_run_of P steps words told answer other t (OtherWords e i) (OtherWords f j) = j ∙ sym i
one_run_of P steps words told answer other t (OtherWords e i) (InputTooLong args f asked more j) = absurd (no_args (args_for P words) args e f)
one_run_of P steps words told answer other t (OtherWords e i) (Ended args input f is j) = absurd (no_args (args_for P words) args e f)
one_run_of P steps words told answer other t (InputTooLong args e asked more i) (OtherWords f j) = absurd (no_args (args_for P words) args f e)
one_run_of P steps words told answer other t (InputTooLong args e asked more i) (InputTooLong args' f asked' more' j) = j ∙ sym i
one_run_of P steps words told answer other t (InputTooLong args e asked more i) (Ended args' input f is j) = absurd (long_input told (reads_input P) input (t args e) asked more is)
one_run_of P steps words told answer other t (Ended args input e is i) (OtherWords f j) = absurd (no_args (args_for P words) args f e)
one_run_of P steps words told answer other t (Ended args input e is i) (InputTooLong args' f asked more j) = absurd (long_input told (reads_input P) input (t args e) asked more is)
one_run_of P steps words told answer other t (Ended args input e is i) (Ended args' input' f is' j) =
    let same_args : args' ≡ args = cc in
    j ∙ ap (λ (given : List Arg). run_served P steps (ends P steps given input')) same_args
    ∙ ap (λ (bytes : List ℕ). run_served P steps (ends P steps args bytes)) (same_input told (reads_input P) input input' (t args e) is is') ∙ sym i

pub one_run : (files : Files) (file : List ℕ) (steps : ℕ) (words : List (List ℕ)) (told : Option (List ℕ)) (answer other : Served) → (ReadsInput files file words → IsSome told) →
    Runs files file steps words told answer → Runs files file steps words told other → other ≡ answer
one_run files file steps words told answer other t (Refused r g i) (Refused s h j) = j ∙ same_refusal files file r s g h ∙ sym i
one_run files file steps words told answer other t (Refused r g i) (OfProgram P h k) = absurd (no_program files file r P g h)
one_run files file steps words told answer other t (OfProgram P g k) (Refused r h i) = absurd (no_program files file r P h g)
one_run files file steps words told answer other t (OfProgram P g k) (OfProgram Q h l) =
    one_run_of P steps words told answer other (λ args e asked. t (record { program = P; gives = g; args = args; mains = e; reads = asked })) k
    (subst (λ (R : Program). ProgramRuns R steps words told other) (same_program files file P Q g h) l)

-- ---- what is decided

-- words that are not main's
pub words_refused : (told : Option Files) (file : List ℕ) (steps : ℕ) (words : List (List ℕ)) (input : Option (List ℕ)) (P : Program) →
    IfSome told (λ files. FileGives files file (Ok P)) → args_for P words ≡ None → Answers told (Run file steps words input) (refusal_of file Usage)
words_refused None file steps words input P h e = search rules
words_refused (Some files) file steps words input P h e = OfProgram P h (OtherWords e refl)

pub has_other_words : (told : Option Files) (file : List ℕ) (words : List (List ℕ)) (P : Program) →
    IfSome told (λ files. FileGives files file (Ok P)) → args_for P words ≡ None → IfSome told (λ files. HasOtherWords files file words)
has_other_words None file words P h e = search rules
has_other_words (Some files) file words P h e = record { program = P; gives = h; other = e }

-- the run comes to read its input
pub reads_in : (told : Option Files) (file : List ℕ) (steps : ℕ) (words : List (List ℕ)) (input : Option (List ℕ)) (P : Program) (args : List Arg) →
    IfSome told (λ files. FileGives files file (Ok P)) → args_for P words ≡ Some args → reads_input P ≡ true → ReadsIn told (Run file steps words input)
reads_in None file steps words input P args h e asked = search rules
reads_in (Some files) file steps words input P args h e asked = record { program = P; gives = h; args = args; mains = e; reads = asked }

-- ..or leaves it as it was
pub input_place : (told : Option Files) (file : List ℕ) (steps : ℕ) (words : List (List ℕ)) (input input' : Option (List ℕ)) (i i' : ℕ) (P : Program) (args : List Arg) →
    IfSome told (λ files. FileGives files file (Ok P)) → args_for P words ≡ Some args → (reads_input P ≡ true) ⊎ IsUntouched input input' i i' →
    ReadsIn told (Run file steps words input) ⊎ IsUntouched input input' i i'
input_place told file steps words input input' i i' P args h e (inl asked) = inl (reads_in told file steps words input P args h e asked)
input_place told file steps words input input' i i' P args h e (inr same) = inr same

long_refused : (told : Option Files) (file : List ℕ) (steps : ℕ) (words : List (List ℕ)) (input : Option (List ℕ)) (P : Program) (args : List Arg) →
    IfSome told (λ files. FileGives files file (Ok P)) → args_for P words ≡ Some args → reads_input P ≡ true → IfSome input (λ bytes. input_limit < length bytes) →
    Answers told (Run file steps words input) (refusal_of file (Limit limit.Input))
long_refused None file steps words input P args h e asked more = search rules
long_refused (Some files) file steps words input P args h e asked more = OfProgram P h (InputTooLong args e asked more refl)

-- an input that isn't read
pub input_refused : (told : Option Files) (file : List ℕ) (steps : ℕ) (words : List (List ℕ)) (input : Option (List ℕ)) (P : Program) (args : List Arg) (i i' : ℕ) (fault : Fault) →
    IfSome told (λ files. FileGives files file (Ok P)) → args_for P words ≡ Some args → reads_input P ≡ true → InputRefused input i i' fault →
    UnlessHindered {X = Served} (Err fault) (Answers told (Run file steps words input) (refusal_of file fault))
input_refused told file steps words input P args i i' fault h e asked why =
    not_read Served limit.Input (IfSome input (λ bytes. input_limit < length bytes)) i i' fault (λ f. Answers told (Run file steps words input) (refusal_of file f)) why
    (long_refused told file steps words input P args h e asked)

-- a run that ended
pub run_ended : (told : Option Files) (file : List ℕ) (steps : ℕ) (words : List (List ℕ)) (input : Option (List ℕ)) (P : Program) (args : List Arg) (bytes : List ℕ) (served : Served) →
    IfSome told (λ files. FileGives files file (Ok P)) → args_for P words ≡ Some args → IsInput (reads_input P) input bytes →
    served ≡ run_served P steps (ends P steps args bytes) → Answers told (Run file steps words input) served
run_ended None file steps words input P args bytes served h e is i = search rules
run_ended (Some files) file steps words input P args bytes served h e is i = OfProgram P h (Ended args bytes e is i)

-- an end's status is one of an end
pub is_ending : (steps : ℕ) (served : Served) → RunEnds steps served.status served.out served.errs → IsEnding served.status
is_ending steps served r = by_how (ends r.program steps r.args r.input).how refl
  where
    status_is : served.status ≡ end_status (ends r.program steps r.args r.input).how
    status_is = ap (λ (s : Served). s.status) r.is

    by_how : (how : RunEnd) → (ends r.program steps r.args r.input).how ≡ how → IsEnding served.status
    by_how (end.Returned z) e = inl (omega (arith, status_is ∙ ap end_status e))
    by_how (end.Error kind proc number) e = inl (omega (arith, status_is ∙ ap end_status e))
    by_how end.Stopped e = inr (status_is ∙ ap end_status e)

abbrev served_of : ℕ → List ℕ → List ℕ → Served
served_of status out errs = record { status = status; out = out; errs = errs }

-- what was served is the end of the run
pub run_is : (P : Program) (steps : ℕ) (args : List Arg) (input : List ℕ) (m m' : Stack) (e : RunEnd) (status : ℕ) (out errs : List ℕ) →
    ((n : ℕ) → machine_end m n ≡ seen (run_main n P (start_values P args) (start_memory P args) (world_of input))) →
    e ≡ (machine_end m steps).how → ((n : ℕ) → machine_end m' n ≡ machine_end m (steps + n)) → out ≡ (machine_end m' 0).output →
    errs ≡ end_text P steps e → status ≡ end_status e →
    record { status = status; out = out; errs = errs } ≡ run_served P steps (ends P steps args input)
run_is P steps args input m m' e status out errs started ended stands printed line_is status_is =
    let how_is : e ≡ (ends P steps args input).how = ended ∙ ap (λ (o : Outcome). o.how) (started steps) in
    let all : steps + 0 ≡ steps = omega arith in
    let out_is : out ≡ (ends P steps args input).output = printed ∙ ap (λ (o : Outcome). o.output) (stands 0 ∙ ap (λ (n : ℕ). machine_end m n) all ∙ started steps) in
    ap (λ (n : ℕ). served_of n out errs) (status_is ∙ ap end_status how_is)
    ∙ ap (λ (text : List ℕ). served_of (end_status (ends P steps args input).how) text errs) out_is
    ∙ ap (λ (text : List ℕ). served_of (end_status (ends P steps args input).how) (ends P steps args input).output text) (line_is ∙ ap (λ (h : RunEnd). end_text P steps h) how_is)
