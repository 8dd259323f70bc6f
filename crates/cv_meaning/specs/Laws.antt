-- Laws of runs.
use Rattle.std.specs.Prelude.{ℕ, ◌≡◌, ◌≤◌, List, ◌+◌, Option}
use Rattle.cv_core.specs.declared.faults.ErrKind.{ErrKind}
use Rattle.cv_core.specs.declared.program.Program.{Program}
use Rattle.cv_meaning.specs.declared.memory.Value.{Value}
use Rattle.cv_meaning.specs.declared.memory.World.{World}
use Rattle.cv_meaning.specs.Memory.{Memory}
use Rattle.cv_meaning.specs.State.{Frame, State}
use Rattle.cv_meaning.specs.Run.{End, Error, Returned, Runner, one_step, run_within, run}

-- the runs of a program, each within a bound of its own number of steps
abbrev pub runs : Program → Runner
runs P f k s n = run n P f k s

-- a bound that is at least the number of steps is no part of the answer
abbrev pub LargerBoundsAgree : Type 0
LargerBoundsAgree = (deep n : ℕ) (P : Program) (f : Frame) (k : ℕ) (s : State) → n ≤ deep → run_within deep P f k s n ≡ run n P f k s

-- a run is one step, and then runs of fewer steps
abbrev pub RunsByStep : Type 0
RunsByStep = (P : Program) (f : Frame) (k : ℕ) (s : State) (n : ℕ) → run n P f k s ≡ one_step P (runs P) f k s n

-- a run that errs, errs likewise with more steps
abbrev pub ErrorsStay : Type 0
ErrorsStay = (n more : ℕ) (P : Program) (f : Frame) (k : ℕ) (s : State) (kind : ErrKind) (proc line : ℕ) (out : List ℕ) →
    run n P f k s ≡ Error kind proc line out → run (n + more) P f k s ≡ Error kind proc line out

-- a run that returns, returns likewise with more steps, and leaves these too
abbrev pub ReturnsStay : Type 0
ReturnsStay = (n more : ℕ) (P : Program) (f : Frame) (k : ℕ) (s : State) (v : Option Value) (m : Memory) (left : ℕ) (w : World) (out : List ℕ) →
    run n P f k s ≡ Returned v m left w out → run (n + more) P f k s ≡ Returned v m (left + more) w out
