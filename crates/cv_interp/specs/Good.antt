-- What holds of a machine at each moment, and what a step leads to.
use Rattle.std.specs.Prelude.{ℕ, ◌≡◌, ◌+◌, ◌≤◌, ◌^◌, Bool, true, false, All, length, slice_get, Some, None}
use Rattle.cv_core.specs.Grammar.{IsWritten}
use Rattle.cv_core.specs.Limits.{first_limit}
use Rattle.cv_core.specs.Names.{stmts_of}
use Rattle.cv_core.specs.WellFormed.{IsSoundProgram}
use Rattle.cv_core.specs.declared.program.Program.{Program}
use Rattle.cv_core.specs.declared.program.Stmt.{Stmt}
use Rattle.cv_core.specs.declared.program.Form.{Form}
use Rattle.cv_core.specs.declared.program.Form.TheVariants as form
use Rattle.cv_meaning.specs.declared.ends.RunEnd.{RunEnd}
use Rattle.cv_meaning.specs.declared.ends.RunEnd.TheVariants as how
use Rattle.cv_meaning.specs.Memory.{Memory}
use Rattle.cv_interp.specs.declared.machine.Core.{Core}
use Rattle.cv_interp.specs.declared.machine.Ended.{Ended}
use Rattle.cv_interp.specs.declared.machine.Ended.TheVariants as ended
use Rattle.cv_interp.specs.declared.machine.Turn.{Turn}
use Rattle.cv_interp.specs.declared.store.Activation.{Activation}
use Rattle.cv_interp.specs.declared.store.Waiting.{Waiting}
use Rattle.cv_interp.specs.Entered.{IsRoom}
use Rattle.cv_interp.specs.Level.{Stack}
use Rattle.cv_interp.specs.Machine.{end, is_call, turn_of}
use Rattle.cv_interp.specs.Seen.{frame, state}
use Rattle.cv_interp.specs.Slots.{env_of, slot_names}
use Rattle.cv_interp.specs.Sound.{HasLocals, IsFit, IsState}

-- a procedure of the program, with few objects before it
pub record IsActive (P : Program) (a : Activation) : Type 0 where
  pub proc : slice_get P.procs a.number ≡ Some a.proc.now
  pub first : a.permit.first ≤ 2 ^ 62

-- a statement is a call
pub record IsAtCall (w : Waiting) : Type 0 where
  pub stmt : Stmt
  pub there : slice_get (stmts_of w.activation.proc.now.body) w.at ≡ Some stmt
  pub call : is_call stmt.form ≡ true

-- what waits, with the memory as it is
pub record IsWaiting (P : Program) (m : Memory) (w : Waiting) : Type 0 where
  pub active : IsActive P w.activation
  pub call : IsAtCall w
  pub whole : length w.vars.items ≡ length (slot_names w.activation.proc.now)
  pub fit : IsFit w.activation.proc.now m (env_of w.activation.proc.now w.vars.items)
  pub locals : HasLocals w.activation.proc.now w.activation.permit.first m

pub record IsGood (c : Core) : Type 0 where
  pub program : IsSoundProgram c.program.now
  pub limits : first_limit c.program.now ≡ None
  pub written : IsWritten c.program.now
  pub active : IsActive c.program.now c.running
  pub room : IsRoom c.running.proc.now c.store.room
  pub state : IsState c.program.now (frame c.running) (state c.running.proc.now c.store)
  pub waiting : All (IsWaiting c.program.now c.store.room.memory) c.waiting.items

-- the step of m answers t, and leads to n
pub record Leads (m : Stack) (t : Turn) (n : Stack) : Type 0 where
  pub turn : t ≡ turn_of (end m 1).how
  pub stands : (k : ℕ) → end n k ≡ end m (1 + k)

abbrev pub ended_how : Ended → RunEnd
ended_how (ended.Error kind proc line) = how.Error kind proc line
ended_how (ended.Returned z) = how.Returned z

-- no call and no return
abbrev pub is_plain : Form → Bool
is_plain (form.Call into g args) = false
is_plain (form.Return e) = false
is_plain form = true
