-- What a step of the code does, and what it needs.
use Rattle.std.specs.Prelude.{ℕ, ◌≡◌, ◌<◌, ◌^◌, ◌+◌, length, Result, Ok, Err, IsSome, pos, ◌≤ℤ◌}
use Rattle.cv_core.specs.Names.{Name, locals_of}
use Rattle.cv_core.specs.declared.faults.ErrKind.{ErrKind}
use Rattle.cv_core.specs.declared.program.Program.{Program}
use Rattle.cv_core.specs.declared.program.Proc.{Proc}
use Rattle.cv_core.specs.declared.program.Form.{Form}
use Rattle.cv_core.specs.declared.program.Form.TheVariants as form
use Rattle.cv_meaning.specs.declared.memory.Ptr.{Ptr}
use Rattle.cv_meaning.specs.declared.memory.Ptr.TheVariants.{Null, Wild, At}
use Rattle.cv_meaning.specs.declared.memory.Value.{Value}
use Rattle.cv_meaning.specs.Contract.{Env}
use Rattle.cv_meaning.specs.Memory.{Memory}
use Rattle.cv_meaning.specs.State.{pointer}
use Rattle.cv_meaning.specs.Step.{step}
use Rattle.cv_interp.specs.declared.store.Activation.{Activation}
use Rattle.cv_interp.specs.declared.store.Store.{Store}
use Rattle.cv_interp.specs.Cells.{IsCellIfLive}
use Rattle.cv_interp.specs.Seen.{frame, state}
use Rattle.cv_interp.specs.Slots.{slot_names, slot_of}

-- a value for each slot
abbrev pub IsWhole : Proc → Store → Type 0
IsWhole f s = length s.room.vars.items ≡ length (slot_names f)

-- as many variables and objects as before
abbrev pub IsKept : Store → Store → Type 0
IsKept s t = (length t.room.vars.items ≡ length s.room.vars.items) × (t.room.made ≡ s.room.made)

-- the step of the form leads from s to t, at the statement that is answered, or errs and changes nothing
abbrev pub Takes : Program → Activation → ℕ → Form → Store → Result ℕ ErrKind → Store → Type 0
Takes P a k form s (Ok j) t = (step P (frame a) k form (state a.proc.now s) ≡ Ok (j, state a.proc.now t)) × IsKept s t
Takes P a k form s (Err e) t = (step P (frame a) k form (state a.proc.now s) ≡ Err e) × (t ≡ s)

-- an offset that an int holds
abbrev pub IsNearPtr : Ptr → Type 0
IsNearPtr Null = Unit {0}
IsNearPtr Wild = Unit {0}
IsNearPtr (At o at) = at < 2 ^ 31

abbrev pub IsNear : Value → Type 0
IsNear v = IsNearPtr (pointer v)

abbrev pub HasSlot : Proc → Name → Type 0
HasSlot f x = IsSome (slot_of f x)

-- what the step of a form needs: its destination is a variable, divisors are not 0, pointers to cells point to cells
abbrev pub IsReady : Proc → Env → Memory → Form → Type 0
IsReady f vars m (form.Assign x e) = HasSlot f x
IsReady f vars m (form.Sum x d e) = HasSlot f x
IsReady f vars m (form.Minus x d e) = HasSlot f x
IsReady f vars m (form.Product x z e) = HasSlot f x
IsReady f vars m (form.Quotient x e z) = HasSlot f x × (pos 1 ≤ℤ z)
IsReady f vars m (form.Remainder x e z) = HasSlot f x × (pos 1 ≤ℤ z)
IsReady f vars m (form.CopyPtr p q) = HasSlot f p
IsReady f vars m (form.Address p a) = HasSlot f p
IsReady f vars m (form.Shift p q e) = HasSlot f p
IsReady f vars m (form.Load x p) = HasSlot f x
IsReady f vars m (form.Store p e) = Unit {0}
IsReady f vars m (form.Get x w) = HasSlot f x
IsReady f vars m (form.Put w e) = IsCellIfLive m (pointer (vars w))
IsReady f vars m (form.Diff x p q) = HasSlot f x × IsNear (vars p) × IsNear (vars q)
IsReady f vars m (form.Goto to) = Unit {0}
IsReady f vars m (form.If e r d to) = Unit {0}
IsReady f vars m (form.IfByte p equal to) = Unit {0}
IsReady f vars m (form.Call into g args) = Unit {0}
IsReady f vars m (form.Return e) = Unit {0}

-- the objects that a frame makes are numbered within 64 bits
abbrev pub IsSmall : Activation → Type 0
IsSmall a = a.permit.first + length (locals_of a.proc.now.body) < 2 ^ 63
