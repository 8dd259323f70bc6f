-- A procedure that runs, or that waits for a call to return.
use Rattle.std.specs.Prelude.{ℕ, List}
use Rattle.cv_core.specs.declared.program.Proc.{Proc}
use Rattle.cv_meaning.specs.declared.memory.NamedValue.{NamedValue}
use Rattle.cv_meaning.specs.declared.memory.Permit.{Permit}
use Rattle.cv_meaning.specs.declared.memory.World.{World}
use Rattle.cv_meaning.specs.Memory.{Memory}
use Rattle.cv_core.specs.declared.program.Program.{Program}
use Rattle.std.specs.Prelude.{Option}
use Rattle.cv_interp.specs.declared.machine.Ended.{Ended}

pub record Level : Type 0 where
  -- the procedure, and its number
  pub number : ℕ
  pub proc : Proc
  -- the formals and the memory at entry, and what may be written
  pub formals : List NamedValue
  pub entry : Memory
  pub permit : Permit
  -- the statement that is next, or the call that is waited for
  pub at : ℕ
  pub vars : List NamedValue

-- a machine: the level that runs, those that wait, from main's on, and what they share
pub record Stack : Type 0 where
  pub program : Program
  pub waiting : List Level
  pub running : Level
  pub memory : Memory
  pub world : World
  pub output : List ℕ
  -- the end, where the machine has ended
  pub ended : Option Ended
