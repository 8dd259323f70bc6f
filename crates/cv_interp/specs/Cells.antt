-- Pointers to cells.
use Rattle.std.specs.Prelude.{◌≡◌, true, IsSome}
use Rattle.cv_meaning.specs.declared.memory.Ptr.{Ptr}
use Rattle.cv_meaning.specs.declared.memory.Ptr.TheVariants.{Null, Wild, At}
use Rattle.cv_meaning.specs.Memory.{Memory, cell_at, live}

-- where it points to a live object, that is a cell
abbrev pub IsCellIfLive : Memory → Ptr → Type 0
IsCellIfLive m Null = Unit {0}
IsCellIfLive m Wild = Unit {0}
IsCellIfLive m (At o at) = live m o ≡ true → IsSome (cell_at m o)
