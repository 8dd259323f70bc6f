-- What is decided of a file or a command before anything is written.
use Rattle.std.specs.Prelude.{ℕ, List, Vec, Bool, true, false, Result, Ok, Err}
use Rattle.std.specs.declared.alloc.Global.{Global}
use Rattle.cv_core.specs.declared.faults.LimitName.TheVariants as limit
use Rattle.cv_core.specs.declared.program.Program.{Program}
use Rattle.cv_text.specs.Readings.{Unread, Faulty, Nested}
use Rattle.cv_app.specs.declared.fault.Fault.{Fault}
use Rattle.cv_app.specs.declared.fault.Fault.TheVariants.{Text, Limit, Memory}
use Rattle.cv_app.specs.declared.served.Served.{Served}
use Rattle.cv_app.specs.Faults.{refusal_of}
use Rattle.cv_app.specs.Programs.{Found}
use Rattle.cv_app.specs.Served.{printed}
use Rattle.cv_app.specs.Texts.{accepted_text, rejected_text}

-- what the reader of texts gave, as the one reading of the text, but for want of memory
abbrev pub reading_of : Result Program Fault → Result Program Unread
reading_of (Ok p) = Ok p
reading_of (Err (Text number)) = Err (Faulty number)
reading_of (Err fault) = Err Nested

-- the faults of a text
abbrev pub IsTextFault : Fault → Type 0
IsTextFault (Text number) = Unit {0}
IsTextFault (Limit limit.Nesting) = Unit {0}
IsTextFault Memory = Unit {0}
IsTextFault fault = ⊥

-- a program or a fault, as what a file of this name stands for
abbrev pub outcome_of : List ℕ → Result Program Fault → Found
outcome_of name (Ok p) = Ok p
outcome_of name (Err fault) = Err (refusal_of name fault)

-- accepted, rejected, or the refusal
abbrev pub check_outcome : List ℕ → Result Bool Fault → Served
check_outcome file (Ok true) = printed 0 accepted_text
check_outcome file (Ok false) = printed 1 rejected_text
check_outcome file (Err fault) = refusal_of file fault

-- the text, or the refusal
abbrev pub core_outcome : List ℕ → Result (Vec ℕ Global) Fault → Served
core_outcome file (Ok text) = printed 0 text.items
core_outcome file (Err fault) = refusal_of file fault

-- the end of a run, or the refusal
abbrev pub run_outcome : List ℕ → Result Served Fault → Served
run_outcome file (Ok served) = served
run_outcome file (Err fault) = refusal_of file fault
