-- What a call with a status leaves in the sinks, where they tell their contents.
use Rattle.std.specs.Prelude.{◌≡◌, ◌≢◌, ℕ, ◌≤◌, ◌⊎◌, List, [], Option, Some}
use Rattle.cv_io.specs.Counts.{Rose}
use Rattle.cv_io.specs.Files.{Files}
use Rattle.cv_io.specs.Streams.{Appends, AppendsPrefix}
use Rattle.cv_app.specs.declared.served.Served.{Served}
use Rattle.cv_app.specs.Commands.{Command, IsRun}
use Rattle.cv_app.specs.Texts.{write_fault_text, no_memory_text}
use Rattle.cv_app.specs.Answers.{Answers, Prints, Ends}
use Rattle.cv_app.specs.Refusals.{Refuses}

-- a device has what it had: its content, where it tells it, and its count
abbrev pub IsUntouched : Option (List ℕ) → Option (List ℕ) → ℕ → ℕ → Type 0
IsUntouched before after faults faults' = (after ≡ before) × (faults' ≡ faults)

-- neither a fault of a device nor want of memory came between
pub record IsSettled (status : ℕ) : Type 0 where
  pub no_read_fault : status ≢ 5
  pub no_write_fault : status ≢ 6
  pub memory : status ≢ 7

-- the text was appended, or, where the count of faults rose, some bytes from its front
abbrev pub Writes : Option (List ℕ) → List ℕ → Option (List ℕ) → ℕ → ℕ → Type 0
Writes before text after faults faults' = Appends before text after ⊎ (Rose faults faults' × AppendsPrefix before text after)

-- some bytes from the front of one of two lines were appended
abbrev pub WritesOneOf : Option (List ℕ) → List ℕ → List ℕ → Option (List ℕ) → Type 0
WritesOneOf before text other after = AppendsPrefix before text after ⊎ AppendsPrefix before other after

-- An answer with a status and a text was to be printed, and the call ended with this status.
pub data Printed (answer : Served) (status : ℕ) (out out' : Option (List ℕ)) (counted counted' : ℕ) (errs errs' : Option (List ℕ)) (faults faults' : ℕ) : Type 0 where
  Whole : status ≡ answer.status → Appends out answer.out out' → errs' ≡ errs →
      Printed answer status out out' counted counted' errs errs' faults faults'
  WriteFault : status ≡ 6 → Rose counted counted' → AppendsPrefix out answer.out out' →
      Writes errs write_fault_text errs' faults faults' →
      Printed answer status out out' counted counted' errs errs' faults faults'
  NoMemory : status ≡ 7 → AppendsPrefix out answer.out out' → WritesOneOf errs write_fault_text no_memory_text errs' →
      Printed answer status out out' counted counted' errs errs' faults faults'

-- The output of a run and the line of its end were to be printed, and the call ended with this status.
pub data PrintedEnd (answer : Served) (status : ℕ) (out out' : Option (List ℕ)) (counted counted' : ℕ) (errs errs' : Option (List ℕ)) (faults faults' : ℕ) : Type 0 where
  Both : status ≡ answer.status → Appends out answer.out out' → Appends errs answer.errs errs' →
      PrintedEnd answer status out out' counted counted' errs errs' faults faults'
  OutputFault : status ≡ 6 → Rose counted counted' → AppendsPrefix out answer.out out' →
      Writes errs write_fault_text errs' faults faults' →
      PrintedEnd answer status out out' counted counted' errs errs' faults faults'
  LineFault : status ≡ 6 → Rose faults faults' → Appends out answer.out out' → AppendsPrefix errs answer.errs errs' →
      PrintedEnd answer status out out' counted counted' errs errs' faults faults'
  NoMemoryForOutput : status ≡ 7 → AppendsPrefix out answer.out out' → WritesOneOf errs write_fault_text no_memory_text errs' →
      PrintedEnd answer status out out' counted counted' errs errs' faults faults'
  NoMemoryForLine : status ≡ 7 → Appends out answer.out out' → AppendsPrefix errs answer.errs errs' →
      PrintedEnd answer status out out' counted counted' errs errs' faults faults'

-- A line was to be written that says why there is no answer, and the call ended with this status.
pub data Reported (answer : Served) (status : ℕ) (errs errs' : Option (List ℕ)) (faults faults' : ℕ) : Type 0 where
  Line : status ≡ answer.status → Writes errs answer.errs errs' faults faults' → Reported answer status errs errs' faults faults'
  Cut : status ≡ 7 → WritesOneOf errs answer.errs no_memory_text errs' → Reported answer status errs errs' faults faults'

-- The answer of a command was given: its status, and its texts on the two sinks.
pub record Answered (told : Option Files) (command : Command) (status : ℕ) (out out' errs errs' : Option (List ℕ)) (faults faults' : ℕ) : Type 0 where
  pub answer : Served
  pub is : Answers told command answer
  pub status_is : status ≡ answer.status
  pub printed : Appends out answer.out out'
  pub refused : Writes errs answer.errs errs' faults faults'

-- a status of an answer
abbrev pub IsEnding : ℕ → Type 0
IsEnding status = (status ≤ 1) ⊎ (status ≡ 8)

-- A run was begun and ended so: its status, its output and the line of its end.
pub record RunAnswered (told : Option Files) (command : Command) (status : ℕ) (out out' errs errs' : Option (List ℕ)) : Type 0 where
  pub answer : Served
  pub is : Answers told command answer
  pub status_is : status ≡ answer.status
  pub printed : Appends out answer.out out'
  pub line : Appends errs answer.errs errs'

-- What became of an answer: it was given, or a fault of reading, a fault of writing where there is a text to print, or
-- want of memory came between. Of the text some bytes from its front may have been printed then.
pub data Becomes (answer : Served) (status : ℕ) (out out' : Option (List ℕ)) : Type 0 where
  Given : status ≡ answer.status → Appends out answer.out out' → Becomes answer status out out'
  ReadFault : status ≡ 5 → out' ≡ out → Becomes answer status out out'
  WriteFault : IsEnding answer.status → status ≡ 6 → AppendsPrefix out answer.out out' → Becomes answer status out out'
  NoMemory : status ≡ 7 → AppendsPrefix out answer.out out' → Becomes answer status out out'

-- What became of an answer over devices that never fail: it is served, or a load failed and nothing was printed, or
-- memory ran out, and some bytes from the front of its text were printed.
pub data ServedOf (answer served : Served) : Type 0 where
  AllServed : served ≡ answer → ServedOf answer served
  LoadFault : served.status ≡ 5 → served.out ≡ [] → ServedOf answer served
  OutOfMemory : served.status ≡ 7 → AppendsPrefix (Some []) answer.out (Some served.out) → ServedOf answer served

-- Standard output: an answer is printed whole, a refusal and a fault of reading print nothing, and a fault of writing or
-- want of memory may cut the text of an answer short.
pub record PrintsBy (command : Command) (status : ℕ) (out out' : Option (List ℕ)) : Type 0 where
  pub whole : status ≤ 1 → (text : List ℕ) × Prints command status text × Appends out text out'
  pub stopped : status ≡ 8 → (text : List ℕ) × Prints command status text × Appends out text out'
  pub nothing : 2 ≤ status → status ≤ 5 → out' ≡ out
  pub cut_short : 6 ≤ status → status ≤ 7 → (out' ≡ out) ⊎ ((answered : ℕ) × (text : List ℕ) × Prints command answered text × AppendsPrefix out text out')

-- some bytes from the front of the line of an end were appended
abbrev pub CutEnd : Command → Option (List ℕ) → Option (List ℕ) → Type 0
CutEnd command errs errs' = (answered : ℕ) × (text : List ℕ) × Ends command answered text × AppendsPrefix errs text errs'

-- Standard error: the line of the end beside the answer of a run, nothing beside any other, the line of any other status, and
-- for want of memory some bytes from the front of one line. Where the line of an end can't be written, some bytes from its front.
pub record RefusesBy (command : Command) (status : ℕ) (errs errs' : Option (List ℕ)) (faults faults' : ℕ) : Type 0 where
  pub nothing : (IsRun command → ⊥) → status ≤ 1 → errs' ≡ errs
  pub ended : IsRun command → IsEnding status → (text : List ℕ) × Ends command status text × Appends errs text errs'
  pub whole : 2 ≤ status → status ≤ 6 → ((text : List ℕ) × Refuses command status text × Writes errs text errs' faults faults')
      ⊎ ((status ≡ 6) × Rose faults faults' × CutEnd command errs errs')
  pub cut_short : status ≡ 7 → ((refused : ℕ) × (text : List ℕ) × Refuses command refused text × AppendsPrefix errs text errs') ⊎ CutEnd command errs errs'
