-- What `run FILE STEPS ARG..` answers, where no device fails and memory suffices.
use Rattle.std.specs.Prelude.{◌≡◌, ℕ, ◌<◌, ◌≤◌, List, [], length, Bool, true, false, Option, Some, None, IfSome, IsSomeAnd, Result, Ok, Err}
use Rattle.cv_core.specs.declared.faults.LimitName.TheVariants as limit
use Rattle.cv_core.specs.declared.program.Program.{Program}
use Rattle.cv_meaning.specs.declared.ends.Arg.{Arg}
use Rattle.cv_meaning.specs.declared.memory.World.{World}
use Rattle.cv_meaning.specs.Run.{run_main}
use Rattle.cv_interp.specs.Machine.{Outcome, seen}
use Rattle.cv_interp.specs.Start.{formals_of, main_of, start_memory, start_values}
use Rattle.cv_io.specs.Files.{Files}
use Rattle.cv_app.specs.declared.served.Served.{Served}
use Rattle.cv_app.specs.Args.{args_of}
use Rattle.cv_app.specs.Calls.{reads_input}
use Rattle.cv_app.specs.Ends.{end_status, end_text}
use Rattle.cv_app.specs.Programs.{FileGives}
use Rattle.cv_app.specs.Served.{refused}
use Rattle.cv_app.specs.Texts.{usage_text, limit_text}

-- the arguments that the words give main
abbrev pub args_for : Program → List (List ℕ) → Option (List Arg)
args_for P words = args_of (formals_of (main_of P)) words

-- a world of input alone
abbrev pub world_of : List ℕ → World
world_of input = record { input = input; fresh = []; allocations = []; answers = [] }

-- how the run of so many steps ends
abbrev pub ends : Program → ℕ → List Arg → List ℕ → Outcome
ends P steps args input = seen (run_main steps P (start_values P args) (start_memory P args) (world_of input))

-- the output, and the line of the end
abbrev pub run_served : Program → ℕ → Outcome → Served
run_served P steps o = record { status = end_status o.how; out = o.output; errs = end_text P steps o.how }

-- the input of a run: all that is told, where some statement calls getchar
abbrev pub IsInput : Bool → Option (List ℕ) → List ℕ → Type 0
IsInput true told input = IfSome told (λ bytes. input ≡ bytes) × (length input ≤ 1048576)
IsInput false told input = input ≡ []

-- of a program that a file stands for, in the order in which they are tested:
pub data ProgramRuns (P : Program) (steps : ℕ) (words : List (List ℕ)) (told : Option (List ℕ)) (answer : Served) : Type 0 where
  OtherWords : args_for P words ≡ None → answer ≡ refused 2 usage_text → ProgramRuns P steps words told answer
  InputTooLong : (args : List Arg) → args_for P words ≡ Some args → reads_input P ≡ true → IfSome told (λ bytes. 1048576 < length bytes) →
      answer ≡ refused 4 (limit_text limit.Input) → ProgramRuns P steps words told answer
  Ended : (args : List Arg) (input : List ℕ) → args_for P words ≡ Some args → IsInput (reads_input P) told input →
      answer ≡ run_served P steps (ends P steps args input) → ProgramRuns P steps words told answer

pub data Runs (files : Files) (file : List ℕ) (steps : ℕ) (words : List (List ℕ)) (told : Option (List ℕ)) (answer : Served) : Type 0 where
  Refused : (refusal : Served) → FileGives files file (Err refusal) → answer ≡ refusal → Runs files file steps words told answer
  OfProgram : (P : Program) → FileGives files file (Ok P) → ProgramRuns P steps words told answer → Runs files file steps words told answer

-- the words are not main's
pub record HasOtherWords (files : Files) (file : List ℕ) (words : List (List ℕ)) : Type 0 where
  pub program : Program
  pub gives : FileGives files file (Ok program)
  pub other : args_for program words ≡ None

-- The file gives a program, the words are main's, and some statement calls getchar: the run comes to read its input.
pub record ReadsInput (files : Files) (file : List ℕ) (words : List (List ℕ)) : Type 0 where
  pub program : Program
  pub gives : FileGives files file (Ok program)
  pub args : List Arg
  pub mains : args_for program words ≡ Some args
  pub reads : reads_input program ≡ true

-- the output that it may print with a status, and the line of the end
pub record RunEnds (steps status : ℕ) (out line : List ℕ) : Type 0 where
  pub program : Program
  pub args : List Arg
  pub input : List ℕ
  pub is : record { status = status; out = out; errs = line } ≡ run_served program steps (ends program steps args input)
