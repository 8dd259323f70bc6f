-- A call leads from a sound state to a sound one.
use Rattle.std.proofs.Common.{◌≡◌, refl, ℕ, ◌+◌, ◌<◌, ◌^◌, Bool, true, false, List, [], ◌∷◌, ◌++◌, length, Option, Some, None, arith, ℤ, pos, negsuc}
use Rattle.std.specs.Prelude.{slice_get, slice_index_or}
use Rattle.cv_core.specs.Kinds.{receives}
use Rattle.cv_core.specs.Names.{Name, kind_of}
use Rattle.cv_core.specs.declared.program.Program.{Program}
use Rattle.cv_core.specs.declared.program.Proc.{Proc}
use Rattle.cv_core.specs.declared.program.ResultKind.{ResultKind}
use Rattle.cv_core.specs.declared.program.ResultKind.TheVariants as gives
use Rattle.cv_meaning.specs.declared.memory.Object.{Object}
use Rattle.cv_meaning.specs.declared.memory.Body.TheVariants.{Buffer}
use Rattle.cv_meaning.specs.declared.memory.Ptr.TheVariants.{Null, At}
use Rattle.cv_meaning.specs.declared.memory.Value.{Value}
use Rattle.cv_meaning.specs.declared.memory.Value.TheVariants as value
use Rattle.cv_meaning.specs.State.{Frame, State, fresh_bytes, spend, with_object}
use Rattle.cv_meaning.specs.Call.{Turn, Errs, Goes, Enters, Leaves, getchar, give, malloc, malloc_of, putchar}
use Rattle.cv_interp.proofs.Arriving.{buffer_object}
use Rattle.cv_interp.proofs.Kinded.{int_plain, number_plain, ptr_plain}
use Rattle.cv_interp.proofs.Memories.{IsObject, append_keeps, append_memory}
use Rattle.cv_interp.proofs.Stepped.{IsNext, assign_value_next}
use Rattle.cv_interp.proofs.Typed.{fit_keeps}
use Rattle.cv_interp.specs.Called.{IsInto}
use Rattle.cv_interp.specs.Sound.{IsState, Keeps, is_cell_kind}
use Rattle.cv_interp.specs.Takes.{IsNear}

-- the state there is sound, and what were cells are cells
abbrev pub IsLater : Program → Frame → State → State → Type 0
IsLater P f s t = IsState P f t × Keeps s.memory t.memory

abbrev pub Leads_on : Program → Frame → State → Turn → Type 0
Leads_on P f s (Errs kind) = Unit {0}
Leads_on P f s (Goes j t) = IsLater P f s t
Leads_on P f s (Enters g t) = (slice_get P.procs g.number ≡ Some g.proc) × (g.permit.first ≡ length s.memory) × IsState P g t × Keeps s.memory t.memory
Leads_on P f s (Leaves v t) = Unit {0}

-- ---- destinations

-- a destination that is no pointer to a cell
abbrev pub IsPlain : Proc → Option Name → Type 0
IsPlain f None = Unit {0}
IsPlain f (Some x) = is_cell_kind (kind_of f x) ≡ false

pub into_plain : (P : Program) (f : Proc) (k : ResultKind) (into : Option Name) → receives P f k into ≡ true → IsPlain f into
into_plain P f k None h = tt
into_plain P f gives.Void (Some x) h = absurd (cc)
into_plain P f gives.Int (Some x) h = (int_plain P f x h).0
into_plain P f gives.Char (Some x) h = (number_plain P f x h).0
into_plain P f gives.Ptr (Some x) h = (ptr_plain P f x h).0

pub into_slot : (P : Program) (f : Proc) (k : ResultKind) (into : Option Name) → receives P f k into ≡ true → IsInto f into
into_slot P f k None h = tt
into_slot P f gives.Void (Some x) h = absurd (cc)
into_slot P f gives.Int (Some x) h = (int_plain P f x h).1
into_slot P f gives.Char (Some x) h = (number_plain P f x h).1
into_slot P f gives.Ptr (Some x) h = (ptr_plain P f x h).1

pub give_later : (P : Program) (f : Frame) (into : Option Name) (v : Value) (s : State) → IsPlain f.proc into → IsNear v → IsState P f s → IsLater P f s (give P f into (Some v) s)
give_later P f None v s plain near i = (i, λ o c. c)
give_later P f (Some x) v s plain near i = let n : IsNext P f s _ = assign_value_next P f s x v i plain near in (n.state, n.keeps)

-- ---- states that differ in the world and the output alone

pub world_state : (P : Program) (f : Frame) (s : State) (w : _) (out : List ℕ) → IsState P f s → IsState P f (record s { world = w; output = out })
world_state P f s w out i = record { fit = i.fit; memory = i.memory; globals = i.globals; locals = i.locals }

pub object_later : (P : Program) (f : Frame) (s : State) (y : Object) (w : _) → IsState P f s → IsObject y → IsLater P f s (record s { memory = s.memory ++ y ∷ []; world = w })
object_later P f s y w i fine = (
  record {
    fit = fit_keeps f.proc s.memory (s.memory ++ y ∷ []) s.vars (append_keeps s.memory y) i.fit;
    memory = append_memory s.memory y i.memory fine;
    globals = λ j g at c. append_keeps s.memory y j (i.globals j g at c);
    locals = λ j l at c. append_keeps s.memory y (f.permit.first + j) (i.locals j l at c);
  },
  append_keeps s.memory y,
)

-- ---- built-in procedures

pub getchar_later : (P : Program) (f : Frame) (k : ℕ) (into : Option Name) (s : State) → IsPlain f.proc into → IsState P f s → Leads_on P f s (getchar P f k into s)
getchar_later P f k into s plain i = give_later P f into _ _ plain tt (world_state P f s _ s.output i)

pub putchar_later : (P : Program) (z : ℤ) (f : Frame) (k : ℕ) (into : Option Name) (s : State) → IsPlain f.proc into → IsState P f s → Leads_on P f s (putchar P z f k into s)
putchar_later P z f k into s plain i = give_later P f into _ _ plain tt (world_state P f s s.world _ i)

malloc_later_by : (P : Program) (b : Bool) (n site : ℕ) (f : Frame) (into : Option Name) (s : State) → n < 2 ^ 31 → IsPlain f.proc into → IsState P f s → IsLater P f s (malloc_of P b n site f into s)
malloc_later_by P false n site f into s lt plain i = give_later P f into (value.Ptr Null) s plain tt i
malloc_later_by P true n site f into s lt plain i =
    let made = object_later P f s (record { site = site; live = true; body = Buffer (fresh_bytes n s.world) }) (spend n s).world i (buffer_object site n s.world lt) in
    let given = give_later P f into (value.Ptr (At (length s.memory) 0))
    (spend n (with_object (record { site = site; live = true; body = Buffer (fresh_bytes n s.world) }) s)) plain (omega arith) made.0 in
    (given.0, λ o c. given.1 o (made.1 o c))

pub malloc_later : (P : Program) (z : ℤ) (site : ℕ) (f : Frame) (k : ℕ) (into : Option Name) (s : State) → ((n : ℕ) → z ≡ pos n → n < 2 ^ 31) → IsPlain f.proc into → IsState P f s →
    Leads_on P f s (malloc P z site f k into s)
malloc_later P (negsuc n) site f k into s small plain i = tt
malloc_later P (pos n) site f k into s small plain i = malloc_later_by P (slice_index_or s.world.allocations 0 true) n site f into _ (small n refl) plain (world_state P f s _ s.output i)
