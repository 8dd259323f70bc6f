-- The stack that the fields of a machine stand for.
use Rattle.std.specs.Prelude.{ℕ, List, map}
use Rattle.cv_meaning.specs.declared.memory.Value.{Value}
use Rattle.cv_interp.specs.declared.machine.Core.{Core}
use Rattle.cv_interp.specs.declared.store.Activation.{Activation}
use Rattle.cv_interp.specs.declared.store.Waiting.{Waiting}
use Rattle.cv_interp.specs.Level.{Level, Stack}
use Rattle.cv_interp.specs.Seen.{left}
use Rattle.cv_interp.specs.Slots.{slot_names, with_values}

abbrev pub level_at : Activation → ℕ → List Value → Level
level_at a k vs = record {
  number = a.number;
  proc = a.proc.now;
  formals = a.formals;
  entry = a.entry;
  permit = a.permit;
  at = k;
  vars = with_values (slot_names a.proc.now) vs;
}

abbrev pub waiting_level : Waiting → Level
waiting_level w = level_at w.activation w.at w.vars.items

abbrev pub stack_of : Core → Stack
stack_of m = record {
  program = m.program.now;
  waiting = map waiting_level m.waiting.items;
  running = level_at m.running m.at m.store.room.vars.items;
  memory = m.store.room.memory;
  world = left m.store.world m.store.room.taken;
  output = m.store.output.items;
  ended = m.ended;
}
