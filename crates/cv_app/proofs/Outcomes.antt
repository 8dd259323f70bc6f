-- What printing and reporting leave.
use Rattle.std.proofs.Common.{◌≡◌, ◌≢◌, ℕ, ◌≤◌, ◌⊎◌, List, [], Option, None, Some, Err, IfSome, refl, sym, ap, rules, arith, subst, inl, inr, append-nil, ◌∙◌}
use Rattle.cv_io.specs.Counts.{Rose}
use Rattle.cv_io.specs.Files.{Files}
use Rattle.cv_io.specs.Streams.{Appends, AppendsPrefix}
use Rattle.cv_app.specs.declared.served.Served.{Served}
use Rattle.cv_app.specs.declared.fault.Fault.{Fault}
use Rattle.cv_app.specs.declared.fault.Fault.TheVariants.{Usage, NotBuilt, Text, Limit, Shape, Read, Memory}
use Rattle.cv_app.specs.Commands.{Command, Check, Core, Run, Unknown, IsRun}
use Rattle.cv_app.specs.Texts.{write_fault_text, no_memory_text}
use Rattle.cv_app.specs.Answers.{Answers, IsTold, Prints, Ends}
use Rattle.cv_app.specs.Faults.{refusal_of, UnlessHindered}
use Rattle.cv_app.specs.Refusals.{MayPrint, MayRefuse, file_of, Refuses, OfFault, OfWriting}
use Rattle.cv_app.specs.Sinks.{Writes, WritesOneOf, Printed, Reported, IsEnding, IsSettled, Answered, RunAnswered, PrintedEnd, Becomes, PrintsBy, RefusesBy}
use Rattle.cv_app.specs.Sinks as sinks
use Rattle.cv_app.proofs.Hindered.{settled}
use Rattle.cv_app.proofs.OneAnswer.{one_answer, Exactly}

-- nothing appended
appends_nothing : (told : Option (List ℕ)) → Appends told [] told
appends_nothing None = refl
appends_nothing (Some bytes) = ap (λ (l : List ℕ). Some l) (sym (append-nil bytes))

appends_none : (told told' : Option (List ℕ)) → told' ≡ told → Appends told [] told'
appends_none told told' same = rw same (appends_nothing told)

prefix_nothing : (told told' : Option (List ℕ)) (text : List ℕ) → told' ≡ told → AppendsPrefix told text told'
prefix_nothing told told' text same = record { piece = []; rest = text; parts = refl; appended = appends_none told told' same }

-- the whole is its own front
pub whole_prefix : (told told' : Option (List ℕ)) (text : List ℕ) → Appends told text told' → AppendsPrefix told text told'
whole_prefix told told' text all = record { piece = text; rest = []; parts = append-nil text; appended = all }

-- ---- the lines of faults

-- memory may run out in every command
may_forget : (command : Command) → MayRefuse command Memory
may_forget (Check file cert) = tt
may_forget (Core file) = tt
may_forget (Run file steps words input) = tt
may_forget Unknown = tt

memory_line : (command : Command) → Refuses command 7 no_memory_text
memory_line command = OfFault Memory (may_forget command) refl refl

write_line : (command : Command) → MayPrint command → Refuses command 6 write_fault_text
write_line command may = OfWriting may refl refl

-- a status of a refusal
record IsRefusing (status : ℕ) : Type 0 where
  high : 2 ≤ status
  low : status ≤ 7
  no_six : status ≢ 6

refusing : (file : List ℕ) (fault : Fault) → IsRefusing (refusal_of file fault).status
refusing file Usage = record { high = omega arith; low = omega arith; no_six = λ h. absurd (omega arith) }
refusing file (NotBuilt n) = record { high = omega arith; low = omega arith; no_six = λ h. absurd (omega arith) }
refusing file (Text n) = record { high = omega arith; low = omega arith; no_six = λ h. absurd (omega arith) }
refusing file (Limit which) = record { high = omega arith; low = omega arith; no_six = λ h. absurd (omega arith) }
refusing file (Shape e) = record { high = omega arith; low = omega arith; no_six = λ h. absurd (omega arith) }
refusing file Read = record { high = omega arith; low = omega arith; no_six = λ h. absurd (omega arith) }
refusing file Memory = record { high = omega arith; low = omega arith; no_six = λ h. absurd (omega arith) }

quiet_refusal : (file : List ℕ) (fault : Fault) → (refusal_of file fault).out ≡ []
quiet_refusal file Usage = refl
quiet_refusal file (NotBuilt n) = refl
quiet_refusal file (Text n) = refl
quiet_refusal file (Limit which) = refl
quiet_refusal file (Shape e) = refl
quiet_refusal file Read = refl
quiet_refusal file Memory = refl

two_is_usage : (file : List ℕ) (fault : Fault) → (refusal_of file fault).status ≡ 2 → fault ≡ Usage
two_is_usage file Usage h = refl
two_is_usage file fault h = absurd (omega arith)

five_is_read : (file : List ℕ) (fault : Fault) → (refusal_of file fault).status ≡ 5 → fault ≡ Read
five_is_read file Read h = refl
five_is_read file fault h = absurd (omega arith)

-- ---- an answer that was printed

answered_printed : (told : Option Files) (command : Command) (answer : Served) (status : ℕ) (out out' : Option (List ℕ)) (o o' : ℕ)
    (errs errs' : Option (List ℕ)) (e e' : ℕ) → answer.errs ≡ [] → Answers told command answer →
    Printed answer status out out' o o' errs errs' e e' → IsSettled status → Answered told command status out out' errs errs' e e'
answered_printed told command answer status out out' o o' errs errs' e e' quiet is (sinks.Whole s a same) settled =
    record { answer = answer; is = is; status_is = s; printed = a; refused = inl (rw quiet (appends_none errs errs' same)) }
answered_printed told command answer status out out' o o' errs errs' e e' quiet is (sinks.WriteFault s r p w) settled = absurd (settled.no_write_fault s)
answered_printed told command answer status out out' o o' errs errs' e e' quiet is (sinks.NoMemory s p w) settled = absurd (settled.memory s)

becomes_printed : (answer other : Served) (status : ℕ) (out out' : Option (List ℕ)) (o o' : ℕ)
    (errs errs' : Option (List ℕ)) (e e' : ℕ) → answer.status ≤ 1 →
    Printed answer status out out' o o' errs errs' e e' → other ≡ answer → Becomes other status out out'
becomes_printed answer other status out out' o o' errs errs' e e' low (sinks.Whole s a same) is =
    subst (λ (v : Served). Becomes v status out out') (sym is) (sinks.Given s a)
becomes_printed answer other status out out' o o' errs errs' e e' low (sinks.WriteFault s r p w) is =
    subst (λ (v : Served). Becomes v status out out') (sym is) (sinks.WriteFault (inl low) s p)
becomes_printed answer other status out out' o o' errs errs' e e' low (sinks.NoMemory s p w) is =
    subst (λ (v : Served). Becomes v status out out') (sym is) (sinks.NoMemory s p)

prints_printed : (command : Command) (answer : Served) (status : ℕ) (out out' : Option (List ℕ)) (o o' : ℕ)
    (errs errs' : Option (List ℕ)) (e e' : ℕ) → answer.status ≤ 1 → Prints command answer.status answer.out →
    Printed answer status out out' o o' errs errs' e e' → PrintsBy command status out out'
prints_printed command answer status out out' o o' errs errs' e e' low text (sinks.Whole s a same) = record {
  whole = λ h. (answer.out, subst (λ (n : ℕ). Prints command n answer.out) (sym s) text, a);
  stopped = λ h. absurd (omega (arith, s, low));
  nothing = λ h k. absurd (omega (arith, s, low));
  cut_short = λ h k. absurd (omega (arith, s, low));
}
prints_printed command answer status out out' o o' errs errs' e e' low text (sinks.WriteFault s r p w) = record {
  whole = λ h. absurd (omega (arith, s));
  stopped = λ h. absurd (omega (arith, s));
  nothing = λ h k. absurd (omega (arith, s));
  cut_short = λ h k. inr (answer.status, answer.out, text, p);
}
prints_printed command answer status out out' o o' errs errs' e e' low text (sinks.NoMemory s p w) = record {
  whole = λ h. absurd (omega (arith, s));
  stopped = λ h. absurd (omega (arith, s));
  nothing = λ h k. absurd (omega (arith, s));
  cut_short = λ h k. inr (answer.status, answer.out, text, p);
}

refuses_printed : (command : Command) (answer : Served) (status : ℕ) (out out' : Option (List ℕ)) (o o' : ℕ)
    (errs errs' : Option (List ℕ)) (e e' : ℕ) → (IsRun command → ⊥) → answer.status ≤ 1 → Refuses command 6 write_fault_text → Refuses command 7 no_memory_text →
    Printed answer status out out' o o' errs errs' e e' → RefusesBy command status errs errs' e e'
refuses_printed command answer status out out' o o' errs errs' e e' silent low write memory (sinks.Whole s a same) = record {
  nothing = λ q h. same;
  ended = λ r h. absurd (silent r);
  whole = λ h k. absurd (omega (arith, s, low));
  cut_short = λ h. absurd (omega (arith, s, low));
}
refuses_printed command answer status out out' o o' errs errs' e e' silent low write memory (sinks.WriteFault s r p w) = record {
  nothing = λ q h. absurd (omega (arith, s));
  ended = λ r h. absurd (silent r);
  whole = λ h k. inl (write_fault_text, subst (λ (n : ℕ). Refuses command n write_fault_text) (sym s) write, w);
  cut_short = λ h. absurd (omega (arith, s));
}
refuses_printed command answer status out out' o o' errs errs' e e' silent low write memory (sinks.NoMemory s p (inl w)) = record {
  nothing = λ q h. absurd (omega (arith, s));
  ended = λ r h. absurd (silent r);
  whole = λ h k. absurd (omega (arith, s));
  cut_short = λ h. inl (6, write_fault_text, write, w);
}
refuses_printed command answer status out out' o o' errs errs' e e' silent low write memory (sinks.NoMemory s p (inr w)) = record {
  nothing = λ q h. absurd (omega (arith, s));
  ended = λ r h. absurd (silent r);
  whole = λ h k. absurd (omega (arith, s));
  cut_short = λ h. inl (7, no_memory_text, memory, w);
}

pub record PrintedSo (told : Option Files) (command : Command) (status : ℕ) (out out' errs errs' : Option (List ℕ)) (e e' : ℕ) : Type 0 where
  pub answered : IsSettled status → Answered told command status out out' errs errs' e e'
  pub exactly : Exactly told command status out out'
  pub prints : PrintsBy command status out out'
  pub refuses : RefusesBy command status errs errs' e e'

exactly_printed : (told : Option Files) (command : Command) (answer : Served) (status : ℕ) (out out' : Option (List ℕ)) (o o' : ℕ)
    (errs errs' : Option (List ℕ)) (e e' : ℕ) → answer.status ≤ 1 → Answers told command answer →
    Printed answer status out out' o o' errs errs' e e' → Exactly told command status out out'
exactly_printed None command answer status out out' o o' errs errs' e e' low is p = search rules
exactly_printed (Some files) command answer status out out' o o' errs errs' e e' low is p = λ t other h.
    becomes_printed answer other status out out' o o' errs errs' e e' low p (one_answer files command answer other t is h)

pub printed_so : (told : Option Files) (command : Command) (answer : Served) (status : ℕ) (out out' : Option (List ℕ)) (o o' : ℕ)
    (errs errs' : Option (List ℕ)) (e e' : ℕ) → MayPrint command → (IsRun command → ⊥) → answer.errs ≡ [] → answer.status ≤ 1 → Prints command answer.status answer.out →
    Answers told command answer → Printed answer status out out' o o' errs errs' e e' → PrintedSo told command status out out' errs errs' e e'
printed_so told command answer status out out' o o' errs errs' e e' may silent quiet low text is p = record {
  answered = answered_printed told command answer status out out' o o' errs errs' e e' quiet is p;
  exactly = exactly_printed told command answer status out out' o o' errs errs' e e' low is p;
  prints = prints_printed command answer status out out' o o' errs errs' e e' low text p;
  refuses = refuses_printed command answer status out out' o o' errs errs' e e' silent low (write_line command may) (memory_line command) p;
}

-- ---- a line that was reported

-- a refusal's status is none of an answer
no_end : (status : ℕ) → 2 ≤ status → status ≤ 7 → IsEnding status → ⊥
no_end status high low (inl h) = omega arith
no_end status high low (inr h) = omega arith

answered_reported : (told : Option Files) (command : Command) (answer : Served) (status : ℕ) (out out' : Option (List ℕ))
    (errs errs' : Option (List ℕ)) (e e' : ℕ) → answer.out ≡ [] → Answers told command answer → out' ≡ out →
    Reported answer status errs errs' e e' → IsSettled status → Answered told command status out out' errs errs' e e'
answered_reported told command answer status out out' errs errs' e e' quiet is same (sinks.Line s w) settled =
    record { answer = answer; is = is; status_is = s; printed = rw quiet (appends_none out out' same); refused = w }
answered_reported told command answer status out out' errs errs' e e' quiet is same (sinks.Cut s w) settled = absurd (settled.memory s)

becomes_reported : (answer other : Served) (status : ℕ) (out out' : Option (List ℕ)) (errs errs' : Option (List ℕ)) (e e' : ℕ) →
    answer.out ≡ [] → out' ≡ out → Reported answer status errs errs' e e' → other ≡ answer → Becomes other status out out'
becomes_reported answer other status out out' errs errs' e e' quiet same (sinks.Line s w) is =
    subst (λ (v : Served). Becomes v status out out') (sym is) (sinks.Given s (rw quiet (appends_none out out' same)))
becomes_reported answer other status out out' errs errs' e e' quiet same (sinks.Cut s w) is =
    sinks.NoMemory s (prefix_nothing out out' other.out same)

-- a fault of reading and want of memory come before any answer
becomes_hindered : (answer other : Served) (status : ℕ) (out out' : Option (List ℕ)) (errs errs' : Option (List ℕ)) (e e' : ℕ) →
    (answer.status ≡ 5) ⊎ (answer.status ≡ 7) → out' ≡ out → Reported answer status errs errs' e e' → Becomes other status out out'
becomes_hindered answer other status out out' errs errs' e e' (inl five) same (sinks.Line s w) = sinks.ReadFault (omega (arith, s, five)) same
becomes_hindered answer other status out out' errs errs' e e' (inr seven) same (sinks.Line s w) =
    sinks.NoMemory (omega (arith, s, seven)) (prefix_nothing out out' other.out same)
becomes_hindered answer other status out out' errs errs' e e' why same (sinks.Cut s w) = sinks.NoMemory s (prefix_nothing out out' other.out same)

prints_reported : (command : Command) (answer : Served) (status : ℕ) (out out' : Option (List ℕ))
    (errs errs' : Option (List ℕ)) (e e' : ℕ) → 2 ≤ answer.status → answer.status ≤ 7 → out' ≡ out →
    Reported answer status errs errs' e e' → PrintsBy command status out out'
prints_reported command answer status out out' errs errs' e e' high low same (sinks.Line s w) = record {
  whole = λ h. absurd (omega (arith, s, high));
  stopped = λ h. absurd (omega (arith, s, low));
  nothing = λ h k. same;
  cut_short = λ h k. inl same;
}
prints_reported command answer status out out' errs errs' e e' high low same (sinks.Cut s w) = record {
  whole = λ h. absurd (omega (arith, s));
  stopped = λ h. absurd (omega (arith, s));
  nothing = λ h k. same;
  cut_short = λ h k. inl same;
}

refuses_reported : (command : Command) (answer : Served) (status : ℕ) (errs errs' : Option (List ℕ)) (e e' : ℕ) → 2 ≤ answer.status → answer.status ≤ 7 →
    Refuses command answer.status answer.errs → Refuses command 7 no_memory_text →
    Reported answer status errs errs' e e' → RefusesBy command status errs errs' e e'
refuses_reported command answer status errs errs' e e' high low line memory (sinks.Line s (inl w)) = record {
  nothing = λ q h. absurd (omega (arith, s, high));
  ended = λ r h. absurd (no_end status (omega (arith, s, high)) (omega (arith, s, low)) h);
  whole = λ h k. inl (answer.errs, subst (λ (n : ℕ). Refuses command n answer.errs) (sym s) line, inl w);
  cut_short = λ h. inl (answer.status, answer.errs, line, whole_prefix errs errs' answer.errs w);
}
refuses_reported command answer status errs errs' e e' high low line memory (sinks.Line s (inr w)) = record {
  nothing = λ q h. absurd (omega (arith, s, high));
  ended = λ r h. absurd (no_end status (omega (arith, s, high)) (omega (arith, s, low)) h);
  whole = λ h k. inl (answer.errs, subst (λ (n : ℕ). Refuses command n answer.errs) (sym s) line, inr w);
  cut_short = λ h. inl (answer.status, answer.errs, line, w.1);
}
refuses_reported command answer status errs errs' e e' high low line memory (sinks.Cut s (inl w)) = record {
  nothing = λ q h. absurd (omega (arith, s));
  ended = λ r h. absurd (no_end status (omega (arith, s)) (omega (arith, s)) h);
  whole = λ h k. absurd (omega (arith, s));
  cut_short = λ h. inl (answer.status, answer.errs, line, w);
}
refuses_reported command answer status errs errs' e e' high low line memory (sinks.Cut s (inr w)) = record {
  nothing = λ q h. absurd (omega (arith, s));
  ended = λ r h. absurd (no_end status (omega (arith, s)) (omega (arith, s)) h);
  whole = λ h k. absurd (omega (arith, s));
  cut_short = λ h. inl (7, no_memory_text, memory, w);
}

faults_reported : (answer : Served) (status : ℕ) (errs errs' : Option (List ℕ)) (e e' : ℕ) → answer.status ≤ 7 → answer.status ≢ 6 →
    Reported answer status errs errs' e e' → (status ≢ 6) × (status ≤ 7)
faults_reported answer status errs errs' e e' high no_six (sinks.Line s w) = (λ h. no_six (sym s ∙ h), omega (arith, s, high))
faults_reported answer status errs errs' e e' high no_six (sinks.Cut s w) = (λ h. absurd (omega (arith, s)), omega (arith, s))

-- a status that was reported is the refusal's, or want of memory
reported_is : (answer : Served) (status n : ℕ) (errs errs' : Option (List ℕ)) (e e' : ℕ) → n ≢ 7 → Reported answer status errs errs' e e' → status ≡ n → answer.status ≡ n
reported_is answer status n errs errs' e e' other (sinks.Line s w) is = sym s ∙ is
reported_is answer status n errs errs' e e' other (sinks.Cut s w) is = absurd (other (sym is ∙ s))

hindered : (answer : Served) (status : ℕ) (errs errs' : Option (List ℕ)) (e e' : ℕ) → (answer.status ≡ 5) ⊎ (answer.status ≡ 7) →
    Reported answer status errs errs' e e' → IsSettled status → ⊥
hindered answer status errs errs' e e' (inl five) (sinks.Line s w) calm = calm.no_read_fault (s ∙ five)
hindered answer status errs errs' e e' (inr seven) (sinks.Line s w) calm = calm.memory (s ∙ seven)
hindered answer status errs errs' e e' why (sinks.Cut s w) calm = calm.memory s

pub record RefusedSo (told : Option Files) (command : Command) (fault : Fault) (status : ℕ) (out errs errs' : Option (List ℕ)) (e e' : ℕ) : Type 0 where
  pub answered : IsSettled status → Answered told command status out out errs errs' e e'
  pub exactly : Exactly told command status out out
  pub ended : IsEnding status → RunAnswered told command status out out errs errs'
  pub low : status ≤ 7
  pub no_zero : status ≢ 0
  pub no_six : status ≢ 6
  pub usage : status ≡ 2 → fault ≡ Usage
  pub read_fault : status ≡ 5 → fault ≡ Read
  pub prints : PrintsBy command status out out
  pub refuses : RefusesBy command status errs errs' e e'

exactly_refused : (told : Option Files) (command : Command) (answer : Served) (status : ℕ) (out errs errs' : Option (List ℕ)) (e e' : ℕ) → answer.out ≡ [] →
    ((answer.status ≡ 5) ⊎ (answer.status ≡ 7)) ⊎ Answers told command answer → Reported answer status errs errs' e e' → Exactly told command status out out
exactly_refused None command answer status out errs errs' e e' quiet why r = search rules
exactly_refused (Some files) command answer status out errs errs' e e' quiet (inl why) r = λ t other h.
    becomes_hindered answer other status out out errs errs' e e' why refl r
exactly_refused (Some files) command answer status out errs errs' e e' quiet (inr is) r = λ t other h.
    becomes_reported answer other status out out errs errs' e e' quiet refl r (one_answer files command answer other t is h)

answered_refused : (told : Option Files) (command : Command) (answer : Served) (status : ℕ) (out errs errs' : Option (List ℕ)) (e e' : ℕ) → answer.out ≡ [] →
    ((answer.status ≡ 5) ⊎ (answer.status ≡ 7)) ⊎ Answers told command answer → Reported answer status errs errs' e e' → IsSettled status →
    Answered told command status out out errs errs' e e'
answered_refused told command answer status out errs errs' e e' quiet (inl why) r calm = absurd (hindered answer status errs errs' e e' why r calm)
answered_refused told command answer status out errs errs' e e' quiet (inr is) r calm =
    answered_reported told command answer status out out errs errs' e e' quiet is refl r calm

-- no refusal's status is that of an end
unended : (answer : Served) (status : ℕ) (errs errs' : Option (List ℕ)) (e e' : ℕ) → 2 ≤ answer.status → answer.status ≤ 7 →
    Reported answer status errs errs' e e' → IsEnding status → ⊥
unended answer status errs errs' e e' high low (sinks.Line s w) ending = no_end status (omega (arith, s, high)) (omega (arith, s, low)) ending
unended answer status errs errs' e e' high low (sinks.Cut s w) ending = no_end status (omega (arith, s)) (omega (arith, s)) ending

-- a command that was refused
pub refused_so : (X : Type 0) (told : Option Files) (command : Command) (fault : Fault) (status : ℕ) (out errs errs' : Option (List ℕ)) (e e' : ℕ) → MayRefuse command fault →
    UnlessHindered {X = X} (Err fault) (Answers told command (refusal_of (file_of command) fault)) → Reported (refusal_of (file_of command) fault) status errs errs' e e' →
    RefusedSo told command fault status out errs errs' e e'
refused_so X told command fault status out errs errs' e e' may h r =
    let file = file_of command in
    let answer = refusal_of file fault in
    let within = refusing file fault in
    let quiet = quiet_refusal file fault in
    let why = settled X file fault (Answers told command answer) h in
    let faults = faults_reported answer status errs errs' e e' within.low within.no_six r in
    record {
      answered = answered_refused told command answer status out errs errs' e e' quiet why r;
      exactly = exactly_refused told command answer status out errs errs' e e' quiet why r;
      ended = λ ending. absurd (unended answer status errs errs' e e' within.high within.low r ending);
      low = faults.1;
      no_zero = λ zero. absurd (unended answer status errs errs' e e' within.high within.low r (inl (omega (arith, zero))));
      no_six = faults.0;
      usage = λ two. two_is_usage file fault (reported_is answer status 2 errs errs' e e' (λ x. absurd (omega arith)) r two);
      read_fault = λ five. five_is_read file fault (reported_is answer status 5 errs errs' e e' (λ x. absurd (omega arith)) r five);
      prints = prints_reported command answer status out out errs errs' e e' within.high within.low refl r;
      refuses = refuses_reported command answer status errs errs' e e' within.high within.low (OfFault fault may refl refl) (memory_line command) r;
    }

-- ---- the end of a run that was printed

answered_end : (told : Option Files) (command : Command) (answer : Served) (status : ℕ) (out out' : Option (List ℕ)) (o o' : ℕ)
    (errs errs' : Option (List ℕ)) (e e' : ℕ) → Answers told command answer →
    PrintedEnd answer status out out' o o' errs errs' e e' → IsSettled status → Answered told command status out out' errs errs' e e'
answered_end told command answer status out out' o o' errs errs' e e' is (sinks.Both s a l) settled =
    record { answer = answer; is = is; status_is = s; printed = a; refused = inl l }
answered_end told command answer status out out' o o' errs errs' e e' is (sinks.OutputFault s r p w) settled = absurd (settled.no_write_fault s)
answered_end told command answer status out out' o o' errs errs' e e' is (sinks.LineFault s r p w) settled = absurd (settled.no_write_fault s)
answered_end told command answer status out out' o o' errs errs' e e' is (sinks.NoMemoryForOutput s p w) settled = absurd (settled.memory s)
answered_end told command answer status out out' o o' errs errs' e e' is (sinks.NoMemoryForLine s p w) settled = absurd (settled.memory s)

run_answered_end : (told : Option Files) (command : Command) (answer : Served) (status : ℕ) (out out' : Option (List ℕ)) (o o' : ℕ)
    (errs errs' : Option (List ℕ)) (e e' : ℕ) → Answers told command answer →
    PrintedEnd answer status out out' o o' errs errs' e e' → IsEnding status → RunAnswered told command status out out' errs errs'
run_answered_end told command answer status out out' o o' errs errs' e e' is (sinks.Both s a l) ending =
    record { answer = answer; is = is; status_is = s; printed = a; line = l }
run_answered_end told command answer status out out' o o' errs errs' e e' is (sinks.OutputFault s r p w) ending = absurd (no_end status (omega (arith, s)) (omega (arith, s)) ending)
run_answered_end told command answer status out out' o o' errs errs' e e' is (sinks.LineFault s r p w) ending = absurd (no_end status (omega (arith, s)) (omega (arith, s)) ending)
run_answered_end told command answer status out out' o o' errs errs' e e' is (sinks.NoMemoryForOutput s p w) ending = absurd (no_end status (omega (arith, s)) (omega (arith, s)) ending)
run_answered_end told command answer status out out' o o' errs errs' e e' is (sinks.NoMemoryForLine s p w) ending = absurd (no_end status (omega (arith, s)) (omega (arith, s)) ending)

becomes_end : (answer other : Served) (status : ℕ) (out out' : Option (List ℕ)) (o o' : ℕ)
    (errs errs' : Option (List ℕ)) (e e' : ℕ) → IsEnding answer.status →
    PrintedEnd answer status out out' o o' errs errs' e e' → other ≡ answer → Becomes other status out out'
becomes_end answer other status out out' o o' errs errs' e e' ending (sinks.Both s a l) is =
    subst (λ (v : Served). Becomes v status out out') (sym is) (sinks.Given s a)
becomes_end answer other status out out' o o' errs errs' e e' ending (sinks.OutputFault s r p w) is =
    subst (λ (v : Served). Becomes v status out out') (sym is) (sinks.WriteFault ending s p)
becomes_end answer other status out out' o o' errs errs' e e' ending (sinks.LineFault s r p w) is =
    subst (λ (v : Served). Becomes v status out out') (sym is) (sinks.WriteFault ending s (whole_prefix out out' answer.out p))
becomes_end answer other status out out' o o' errs errs' e e' ending (sinks.NoMemoryForOutput s p w) is =
    subst (λ (v : Served). Becomes v status out out') (sym is) (sinks.NoMemory s p)
becomes_end answer other status out out' o o' errs errs' e e' ending (sinks.NoMemoryForLine s p w) is =
    subst (λ (v : Served). Becomes v status out out') (sym is) (sinks.NoMemory s (whole_prefix out out' answer.out p))

prints_end : (command : Command) (answer : Served) (status : ℕ) (out out' : Option (List ℕ)) (o o' : ℕ)
    (errs errs' : Option (List ℕ)) (e e' : ℕ) → IsEnding answer.status → Prints command answer.status answer.out →
    PrintedEnd answer status out out' o o' errs errs' e e' → PrintsBy command status out out'
prints_end command answer status out out' o o' errs errs' e e' ending text (sinks.Both s a l) =
    let here : Prints command status answer.out = subst (λ (n : ℕ). Prints command n answer.out) (sym s) text in
    let no_refusal : 2 ≤ status → status ≤ 7 → ⊥ = λ h k. no_end answer.status (omega (arith, s)) (omega (arith, s)) ending in
    record {
      whole = λ h. (answer.out, here, a);
      stopped = λ h. (answer.out, here, a);
      nothing = λ h k. absurd (no_refusal h (omega arith));
      cut_short = λ h k. absurd (no_refusal (omega arith) k);
    }
prints_end command answer status out out' o o' errs errs' e e' ending text (sinks.OutputFault s r p w) = record {
  whole = λ h. absurd (omega (arith, s));
  stopped = λ h. absurd (omega (arith, s));
  nothing = λ h k. absurd (omega (arith, s));
  cut_short = λ h k. inr (answer.status, answer.out, text, p);
}
prints_end command answer status out out' o o' errs errs' e e' ending text (sinks.LineFault s r p w) = record {
  whole = λ h. absurd (omega (arith, s));
  stopped = λ h. absurd (omega (arith, s));
  nothing = λ h k. absurd (omega (arith, s));
  cut_short = λ h k. inr (answer.status, answer.out, text, whole_prefix out out' answer.out p);
}
prints_end command answer status out out' o o' errs errs' e e' ending text (sinks.NoMemoryForOutput s p w) = record {
  whole = λ h. absurd (omega (arith, s));
  stopped = λ h. absurd (omega (arith, s));
  nothing = λ h k. absurd (omega (arith, s));
  cut_short = λ h k. inr (answer.status, answer.out, text, p);
}
prints_end command answer status out out' o o' errs errs' e e' ending text (sinks.NoMemoryForLine s p w) = record {
  whole = λ h. absurd (omega (arith, s));
  stopped = λ h. absurd (omega (arith, s));
  nothing = λ h k. absurd (omega (arith, s));
  cut_short = λ h k. inr (answer.status, answer.out, text, whole_prefix out out' answer.out p);
}

refuses_end : (command : Command) (answer : Served) (status : ℕ) (out out' : Option (List ℕ)) (o o' : ℕ)
    (errs errs' : Option (List ℕ)) (e e' : ℕ) → IsRun command → IsEnding answer.status → Ends command answer.status answer.errs →
    Refuses command 6 write_fault_text → Refuses command 7 no_memory_text →
    PrintedEnd answer status out out' o o' errs errs' e e' → RefusesBy command status errs errs' e e'
refuses_end command answer status out out' o o' errs errs' e e' run ending text write memory (sinks.Both s a l) =
    let no_refusal : 2 ≤ status → status ≤ 7 → ⊥ = λ h k. no_end answer.status (omega (arith, s)) (omega (arith, s)) ending in
    record {
      nothing = λ q h. absurd (q run);
      ended = λ r h. (answer.errs, subst (λ (n : ℕ). Ends command n answer.errs) (sym s) text, l);
      whole = λ h k. absurd (no_refusal h (omega arith));
      cut_short = λ h. absurd (no_refusal (omega (arith, h)) (omega (arith, h)));
    }
refuses_end command answer status out out' o o' errs errs' e e' run ending text write memory (sinks.OutputFault s r p w) = record {
  nothing = λ q h. absurd (q run);
  ended = λ _ h. absurd (no_end status (omega (arith, s)) (omega (arith, s)) h);
  whole = λ h k. inl (write_fault_text, subst (λ (n : ℕ). Refuses command n write_fault_text) (sym s) write, w);
  cut_short = λ h. absurd (omega (arith, s));
}
refuses_end command answer status out out' o o' errs errs' e e' run ending text write memory (sinks.LineFault s r p w) = record {
  nothing = λ q h. absurd (q run);
  ended = λ _ h. absurd (no_end status (omega (arith, s)) (omega (arith, s)) h);
  whole = λ h k. inr (s, r, (answer.status, answer.errs, text, w));
  cut_short = λ h. absurd (omega (arith, s));
}
refuses_end command answer status out out' o o' errs errs' e e' run ending text write memory (sinks.NoMemoryForOutput s p (inl w)) = record {
  nothing = λ q h. absurd (q run);
  ended = λ _ h. absurd (no_end status (omega (arith, s)) (omega (arith, s)) h);
  whole = λ h k. absurd (omega (arith, s));
  cut_short = λ h. inl (6, write_fault_text, write, w);
}
refuses_end command answer status out out' o o' errs errs' e e' run ending text write memory (sinks.NoMemoryForOutput s p (inr w)) = record {
  nothing = λ q h. absurd (q run);
  ended = λ _ h. absurd (no_end status (omega (arith, s)) (omega (arith, s)) h);
  whole = λ h k. absurd (omega (arith, s));
  cut_short = λ h. inl (7, no_memory_text, memory, w);
}
refuses_end command answer status out out' o o' errs errs' e e' run ending text write memory (sinks.NoMemoryForLine s p w) = record {
  nothing = λ q h. absurd (q run);
  ended = λ _ h. absurd (no_end status (omega (arith, s)) (omega (arith, s)) h);
  whole = λ h k. absurd (omega (arith, s));
  cut_short = λ h. inr (answer.status, answer.errs, text, w);
}

faults_end : (answer : Served) (status : ℕ) (out out' : Option (List ℕ)) (o o' : ℕ)
    (errs errs' : Option (List ℕ)) (e e' : ℕ) → IsEnding answer.status →
    PrintedEnd answer status out out' o o' errs errs' e e' → (status ≢ 5) × (status ≤ 8) × (status ≢ 2) × (status ≡ 6 → Rose o o' ⊎ Rose e e')
faults_end answer status out out' o o' errs errs' e e' (inl low) (sinks.Both s a l) =
    (λ h. absurd (omega (arith, s, low)), omega (arith, s, low), λ h. absurd (omega (arith, s, low)), λ h. absurd (omega (arith, s, low)))
faults_end answer status out out' o o' errs errs' e e' (inr eight) (sinks.Both s a l) =
    (λ h. absurd (omega (arith, s, eight)), omega (arith, s, eight), λ h. absurd (omega (arith, s, eight)), λ h. absurd (omega (arith, s, eight)))
faults_end answer status out out' o o' errs errs' e e' ending (sinks.OutputFault s r p w) =
    (λ h. absurd (omega (arith, s)), omega (arith, s), λ h. absurd (omega (arith, s)), λ h. inl r)
faults_end answer status out out' o o' errs errs' e e' ending (sinks.LineFault s r p w) =
    (λ h. absurd (omega (arith, s)), omega (arith, s), λ h. absurd (omega (arith, s)), λ h. inr r)
faults_end answer status out out' o o' errs errs' e e' ending (sinks.NoMemoryForOutput s p w) =
    (λ h. absurd (omega (arith, s)), omega (arith, s), λ h. absurd (omega (arith, s)), λ h. absurd (omega (arith, s)))
faults_end answer status out out' o o' errs errs' e e' ending (sinks.NoMemoryForLine s p w) =
    (λ h. absurd (omega (arith, s)), omega (arith, s), λ h. absurd (omega (arith, s)), λ h. absurd (omega (arith, s)))

pub record EndedSo (told : Option Files) (command : Command) (status : ℕ) (out out' : Option (List ℕ)) (o o' : ℕ) (errs errs' : Option (List ℕ)) (e e' : ℕ) : Type 0 where
  pub answered : IsSettled status → Answered told command status out out' errs errs' e e'
  pub exactly : Exactly told command status out out'
  pub ended : IsEnding status → RunAnswered told command status out out' errs errs'
  pub no_five : status ≢ 5
  pub low : status ≤ 8
  pub no_two : status ≢ 2
  pub write_fault : status ≡ 6 → Rose o o' ⊎ Rose e e'
  pub prints : PrintsBy command status out out'
  pub refuses : RefusesBy command status errs errs' e e'

exactly_end : (told : Option Files) (command : Command) (answer : Served) (status : ℕ) (out out' : Option (List ℕ)) (o o' : ℕ)
    (errs errs' : Option (List ℕ)) (e e' : ℕ) → IsEnding answer.status → Answers told command answer →
    PrintedEnd answer status out out' o o' errs errs' e e' → Exactly told command status out out'
exactly_end None command answer status out out' o o' errs errs' e e' ending is p = search rules
exactly_end (Some files) command answer status out out' o o' errs errs' e e' ending is p = λ t other h.
    becomes_end answer other status out out' o o' errs errs' e e' ending p (one_answer files command answer other t is h)

pub ended_so : (told : Option Files) (command : Command) (answer : Served) (status : ℕ) (out out' : Option (List ℕ)) (o o' : ℕ)
    (errs errs' : Option (List ℕ)) (e e' : ℕ) → MayPrint command → IsRun command → IsEnding answer.status → Prints command answer.status answer.out →
    Ends command answer.status answer.errs → Answers told command answer →
    PrintedEnd answer status out out' o o' errs errs' e e' → EndedSo told command status out out' o o' errs errs' e e'
ended_so told command answer status out out' o o' errs errs' e e' may run ending text line is p =
    let faults = faults_end answer status out out' o o' errs errs' e e' ending p in
    record {
      answered = answered_end told command answer status out out' o o' errs errs' e e' is p;
      exactly = exactly_end told command answer status out out' o o' errs errs' e e' ending is p;
      ended = run_answered_end told command answer status out out' o o' errs errs' e e' is p;
      no_five = faults.0;
      low = faults.1;
      no_two = faults.2;
      write_fault = faults.3;
      prints = prints_end command answer status out out' o o' errs errs' e e' ending text p;
      refuses = refuses_end command answer status out out' o o' errs errs' e e' run ending line (write_line command may) (memory_line command) p;
    }
