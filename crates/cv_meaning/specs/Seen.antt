-- What the code's view of a contract stands for.
use Rattle.cv_meaning.specs.declared.memory.View.{View}
use Rattle.std.specs.Prelude.{Option, Some, None}
use Rattle.cv_meaning.specs.declared.contract.Borrowed.{Borrowed}
use Rattle.cv_meaning.specs.Contract.{Scene, Spot}
use Rattle.cv_meaning.specs.Look.{look}

abbrev pub scene : View → Scene
scene v = record { globals = v.globals.now; formals = look v.formals.now; entry = v.at_entry.now; now = v.now.now; answer = v.answer; first = v.first }

abbrev pub seen_spot : Option Borrowed → Option Spot
seen_spot None = None
seen_spot (Some x) = Some (record { object = x.object; offset = x.offset; bytes = x.bytes.now })
