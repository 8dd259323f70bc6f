-- Why a command answers nothing: the status and the line of each fault.
use Rattle.std.specs.Prelude.{◌≡◌, ℕ, ◌<◌, ◌⊎◌, List, length, Option, IfSome, Result, Err}
use Rattle.cv_core.specs.declared.faults.LimitName.{LimitName}
use Rattle.cv_core.specs.declared.faults.LimitName.TheVariants as limit
use Rattle.cv_io.specs.Counts.{Rose}
use Rattle.cv_io.specs.Files.{Files, HoldsMore}
use Rattle.cv_app.specs.declared.fault.Fault.{Fault}
use Rattle.cv_app.specs.declared.fault.Fault.TheVariants.{Usage, NotBuilt, Text, Limit, Shape, Read, Memory}
use Rattle.cv_app.specs.declared.served.Served.{Served}
use Rattle.cv_app.specs.Served.{refused}
use Rattle.cv_app.specs.Texts.{usage_text, not_built_text, text_fault_text, shape_fault_text, limit_text, read_fault_text, no_memory_text}

abbrev pub refusal_of : List ℕ → Fault → Served
refusal_of file Usage = refused 2 usage_text
refusal_of file (NotBuilt number) = refused 3 (not_built_text file number)
refusal_of file (Text number) = refused 3 (text_fault_text file number)
refusal_of file (Limit which) = refused 4 (limit_text which)
refusal_of file (Shape e) = refused 3 (shape_fault_text file e)
refusal_of file Read = refused 5 read_fault_text
refusal_of file Memory = refused 7 no_memory_text

-- why a device isn't read: it failed, memory ran out, or it has more bytes than the limit
abbrev pub NotRead : LimitName → Type 0 → ℕ → ℕ → Fault → Type 0
NotRead which TooLong faults faults' fault = ((fault ≡ Read) × Rose faults faults')
    ⊎ (fault ≡ Memory)
    ⊎ ((fault ≡ Limit which) × TooLong)

-- why a load answers nothing
abbrev pub LoadRefused : Option Files → List ℕ → ℕ → LimitName → ℕ → ℕ → Fault → Type 0
LoadRefused told name limit which faults faults' fault = NotRead which (HoldsMore told name limit) faults faults' fault

-- the most bytes that a run reads
abbrev pub input_limit : ℕ
input_limit = 1048576

-- why the input of a run isn't read
abbrev pub InputRefused : Option (List ℕ) → ℕ → ℕ → Fault → Type 0
InputRefused told faults faults' fault = NotRead limit.Input (IfSome told (λ bytes. input_limit < length bytes)) faults faults' fault

-- a fact, but for faults of reading and want of memory
abbrev pub UnlessHindered : {X : Type 0} → Result X Fault → Type 0 → Type 0
UnlessHindered (Err Read) P = Unit {0}
UnlessHindered (Err Memory) P = Unit {0}
UnlessHindered decision P = P
