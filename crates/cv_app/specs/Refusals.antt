-- With what each command may refuse.
use Rattle.std.specs.Prelude.{◌≡◌, ℕ, List, []}
use Rattle.cv_core.specs.declared.faults.LimitName.{LimitName}
use Rattle.cv_core.specs.declared.faults.LimitName.TheVariants as limit
use Rattle.cv_app.specs.declared.fault.Fault.{Fault}
use Rattle.cv_app.specs.declared.fault.Fault.TheVariants.{Usage, NotBuilt, Text, Limit, Shape, Read, Memory}
use Rattle.cv_app.specs.Commands.{Command, Check, Core, Run, Unknown}
use Rattle.cv_app.specs.Faults.{refusal_of}
use Rattle.cv_app.specs.Texts.{write_fault_text}

-- the limits that a file may pass
abbrev pub IsFileLimit : LimitName → Type 0
IsFileLimit limit.Certificate = ⊥
IsFileLimit limit.Input = ⊥
IsFileLimit limit.Cases = ⊥
IsFileLimit limit.Variables = ⊥
IsFileLimit limit.Transitions = ⊥
IsFileLimit limit.Templates = ⊥
IsFileLimit which = Unit {0}

-- the faults of a file, of its load and of memory
abbrev pub IsFileFault : Fault → Type 0
IsFileFault Usage = ⊥
IsFileFault (NotBuilt number) = number ≡ 1
IsFileFault (Limit which) = IsFileLimit which
IsFileFault fault = Unit {0}

-- those of `check`
abbrev pub IsCheckLimit : LimitName → Type 0
IsCheckLimit limit.Certificate = Unit {0}
IsCheckLimit which = IsFileLimit which

abbrev pub IsCheckFault : Fault → Type 0
IsCheckFault (NotBuilt number) = Unit {0}
IsCheckFault (Limit which) = IsCheckLimit which
IsCheckFault fault = IsFileFault fault

-- those of `run`
abbrev pub IsRunLimit : LimitName → Type 0
IsRunLimit limit.Input = Unit {0}
IsRunLimit which = IsFileLimit which

abbrev pub IsRunFault : Fault → Type 0
IsRunFault Usage = Unit {0}
IsRunFault (Limit which) = IsRunLimit which
IsRunFault fault = IsFileFault fault

-- those of words of no command
abbrev pub IsWordFault : Fault → Type 0
IsWordFault Usage = Unit {0}
IsWordFault Memory = Unit {0}
IsWordFault fault = ⊥

-- the faults with which a command may refuse
abbrev pub MayRefuse : Command → Fault → Type 0
MayRefuse (Check file cert) fault = IsCheckFault fault
MayRefuse (Core file) fault = IsFileFault fault
MayRefuse (Run file steps words input) fault = IsRunFault fault
MayRefuse Unknown fault = IsWordFault fault

-- the file that the lines of a command name
abbrev pub file_of : Command → List ℕ
file_of (Check file cert) = file
file_of (Core file) = file
file_of (Run file steps words input) = file
file_of Unknown = []

-- the command may print on standard output
abbrev pub MayPrint : Command → Type 0
MayPrint Unknown = ⊥
MayPrint command = Unit {0}

-- the lines that a command may put on standard error with a status: that of a fault, or that a text can't be written
pub data Refuses (command : Command) (status : ℕ) (text : List ℕ) : Type 0 where
  OfFault : (fault : Fault) → MayRefuse command fault → status ≡ (refusal_of (file_of command) fault).status →
      text ≡ (refusal_of (file_of command) fault).errs → Refuses command status text
  OfWriting : MayPrint command → status ≡ 6 → text ≡ write_fault_text → Refuses command status text
