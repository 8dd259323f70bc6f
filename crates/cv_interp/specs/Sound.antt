-- States in which each variable that points to cells points to cells, and offsets are ints.
use Rattle.std.specs.Prelude.{ℕ, ◌+◌, ◌≡◌, Bool, true, false, Some, IsSome}
use Rattle.cv_core.specs.Names.{Name, kind_of, objects_of}
use Rattle.cv_core.specs.declared.program.Program.{Program}
use Rattle.cv_core.specs.declared.program.Proc.{Proc}
use Rattle.cv_core.specs.declared.program.GlobalDecl.{GlobalDecl}
use Rattle.cv_core.specs.declared.program.GlobalBody.{GlobalBody}
use Rattle.cv_core.specs.declared.program.GlobalBody.TheVariants as global
use Rattle.cv_core.specs.declared.program.Local.{Local}
use Rattle.cv_core.specs.declared.program.LocalBody.{LocalBody}
use Rattle.cv_core.specs.declared.program.LocalBody.TheVariants as local
use Rattle.cv_core.specs.declared.program.VarKind.{VarKind}
use Rattle.cv_core.specs.declared.program.VarKind.TheVariants as kind
use Rattle.cv_meaning.specs.declared.memory.Object.{Object}
use Rattle.cv_meaning.specs.declared.memory.Ptr.{Ptr}
use Rattle.cv_meaning.specs.declared.memory.Ptr.TheVariants.{Null, Wild, At}
use Rattle.cv_meaning.specs.declared.memory.Value.{Value}
use Rattle.cv_meaning.specs.Contract.{Env}
use Rattle.std.specs.Prelude.{slice_get}
use Rattle.cv_meaning.specs.Memory.{IsShort, Memory, cell_at}
use Rattle.cv_meaning.specs.State.{Frame, State, pointer}
use Rattle.cv_interp.specs.Takes.{IsNear}

abbrev pub is_cell_kind : VarKind → Bool
is_cell_kind kind.Pptr = true
is_cell_kind kind.Iptr = true
is_cell_kind k = false

-- null, wild, or to a cell
abbrev pub PointsToCell : Memory → Ptr → Type 0
PointsToCell m Null = Unit {0}
PointsToCell m Wild = Unit {0}
PointsToCell m (At o at) = IsSome (cell_at m o)

-- v may be the value of the variable x of f
pub record Fits (f : Proc) (m : Memory) (x : Name) (v : Value) : Type 0 where
  pub near : IsNear v
  pub cell : is_cell_kind (kind_of f x) ≡ true → PointsToCell m (pointer v)

abbrev pub IsFit : Proc → Memory → Env → Type 0
IsFit f m vars = (x : Name) → Fits f m x (vars x)

pub record IsMemory (m : Memory) : Type 0 where
  pub near : (o : ℕ) (v : Value) → cell_at m o ≡ Some v → IsNear v
  pub short : (o : ℕ) (x : Object) → slice_get m o ≡ Some x → IsShort x.body

-- what was a cell is one
abbrev pub Keeps : Memory → Memory → Type 0
Keeps m n = (o : ℕ) → IsSome (cell_at m o) → IsSome (cell_at n o)

abbrev pub is_cell_global : GlobalBody → Bool
is_cell_global (global.Buffer n) = false
is_cell_global b = true

abbrev pub is_cell_local : LocalBody → Bool
is_cell_local local.PointerCell = true
is_cell_local local.IntCell = true
is_cell_local b = false

-- the globals that are cells, are cells of the memory
abbrev pub HasGlobals : Program → Memory → Type 0
HasGlobals P m = (i : ℕ) (g : GlobalDecl) → slice_get P.globals i ≡ Some g → is_cell_global g.body ≡ true → IsSome (cell_at m i)

-- the local objects that are cells, are cells of the memory from `first` on
abbrev pub HasLocals : Proc → ℕ → Memory → Type 0
HasLocals f first m = (i : ℕ) (l : Local) → slice_get (objects_of f) i ≡ Some l → is_cell_local l.body ≡ true → IsSome (cell_at m (first + i))

pub record IsState (P : Program) (f : Frame) (s : State) : Type 0 where
  pub fit : IsFit f.proc s.memory s.vars
  pub memory : IsMemory s.memory
  pub globals : HasGlobals P s.memory
  pub locals : HasLocals f.proc f.permit.first s.memory
