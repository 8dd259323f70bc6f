-- What the code's own types stand for.
use Rattle.std.specs.Prelude.{ℕ, List, drop}
use Rattle.cv_core.specs.declared.program.Proc.{Proc}
use Rattle.cv_meaning.specs.declared.memory.World.{World}
use Rattle.cv_meaning.specs.Look.{look}
use Rattle.cv_meaning.specs.State.{Frame, State}
use Rattle.cv_interp.specs.declared.store.Activation.{Activation}
use Rattle.cv_interp.specs.declared.store.Room.{Room}
use Rattle.cv_interp.specs.declared.store.Store.{Store}
use Rattle.cv_interp.specs.declared.store.Taken.{Taken}
use Rattle.cv_interp.specs.Slots.{env_of}

-- the frame of an activation
abbrev pub frame : Activation → Frame
frame a = record { number = a.number; proc = a.proc.now; formals = look a.formals; entry = a.entry; permit = a.permit }

-- what is left of a world
abbrev pub left : World → Taken → World
left w t = record {
  input = drop t.input w.input;
  fresh = drop t.fresh w.fresh;
  allocations = drop t.allocations w.allocations;
  answers = drop t.answers w.answers;
}

-- the state of a procedure with these variables and this memory
abbrev pub state_in : Proc → World → List ℕ → Room → State
state_in f w output r = record { vars = env_of f r.vars.items; memory = r.memory; world = left w r.taken; output = output }

abbrev pub state : Proc → Store → State
state f s = state_in f s.world s.output.items s.room
