-- Each step that is no call and no return is ready, and leads from a sound state to a sound one.
use Rattle.std.proofs.Common.{◌≡◌, refl, sym, ap, ◌∙◌, ℕ, ◌+◌, ◌⊎◌, inl, inr, Bool, true, false, length, Option, Some, None, Ok, Err, arith, ℤ, pos, ◌+ℤ◌}
use Rattle.std.specs.Prelude.{if◌then◌else◌, ◌-ℤ◌, ◌*ℤ◌, ◌==◌}
use Rattle.cv_core.specs.Both.{first_true}
use Rattle.cv_core.specs.Grammar.{IsForm}
use Rattle.cv_core.specs.Kinds.{copies, has_kinds, held_by, means_iptr, means_number, means_pointer, means_pptr, means_ptr, points_to, puts, same_pointers}
use Rattle.cv_core.specs.Meant.{meant_by_local, meant_in}
use Rattle.cv_core.specs.Names.{Name, kind_of}
use Rattle.cv_core.specs.declared.program.Program.{Program}
use Rattle.cv_core.specs.declared.program.Proc.{Proc}
use Rattle.cv_core.specs.declared.program.AnyOperand.{AnyOperand}
use Rattle.cv_core.specs.declared.program.AnyOperand.TheVariants as any
use Rattle.cv_core.specs.declared.program.Operand.TheVariants as operand
use Rattle.cv_core.specs.declared.program.Form.{Form}
use Rattle.cv_core.specs.declared.program.Form.TheVariants as form
use Rattle.cv_core.specs.declared.program.Rel.{Rel}
use Rattle.cv_core.specs.declared.program.Rel.TheVariants as rel
use Rattle.cv_core.specs.declared.program.VarKind.{VarKind}
use Rattle.cv_core.specs.declared.program.VarKind.TheVariants as kind
use Rattle.cv_core.specs.declared.program.LocalBody.{LocalBody}
use Rattle.cv_core.specs.declared.program.LocalBody.TheVariants as local
use Rattle.std.specs.Option.{option_map}
use Rattle.cv_meaning.specs.declared.memory.Ptr.{Ptr}
use Rattle.cv_meaning.specs.declared.memory.Ptr.TheVariants.{Null, Wild, At}
use Rattle.cv_meaning.specs.declared.memory.Value.{Value}
use Rattle.cv_meaning.specs.declared.memory.Value.TheVariants as value
use Rattle.cv_meaning.specs.Checked.{Checked}
use Rattle.cv_meaning.specs.Memory.{Memory, diff, get, load, put, shift, store}
use Rattle.cv_meaning.specs.State.{Frame, State, address, any_value, as_kind, assign, assign_value, operand_value, pointer, spend, with_var}
use Rattle.cv_meaning.specs.Step.{Next, branch, branch_pointers, by_rel, copied, goes, is_int, jumps, pointer_of, ranged, step, value_of}
use Rattle.cv_core.specs.Chars.{char_of, low_byte}
use Rattle.cv_core.specs.declared.faults.ErrKind.TheVariants as err
use Rattle.std.specs.Int.RustNames.{int_div, int_rem}
use Rattle.cv_interp.proofs.Addressed.{IsCellBody, address_cell}
use Rattle.cv_interp.proofs.Kinded.{body_of, iptr_is, iptr_variable, means_is, number_plain, pptr_is, pptr_variable, ptr_plain, ptr_variable, variable_is}
use Rattle.cv_interp.proofs.Typed.{All_ok, IsAfter, any_near, bind_all, fit_keeps, fit_set, get_near, kind_near, plain_fits, put_after, shift_near, store_after, unless_all}
use Rattle.cv_interp.specs.Cells.{IsCellIfLive}
use Rattle.cv_interp.specs.Sound.{Fits, IsFit, IsState, Keeps, PointsToCell, is_cell_kind}
use Rattle.cv_interp.specs.Takes.{HasSlot, IsNear, IsNearPtr, IsReady}

-- ---- parts of tests

pointer_variable : (b : Option LocalBody) → means_pointer (option_map meant_by_local b) ≡ true → (k : VarKind) × (b ≡ Some (local.Var k))
pointer_variable None h = absurd (cc)
pointer_variable (Some (local.Buffer n)) h = absurd (cc)
pointer_variable (Some local.PointerCell) h = absurd (cc)
pointer_variable (Some local.IntCell) h = absurd (cc)
pointer_variable (Some (local.Var kind.Int)) h = absurd (cc)
pointer_variable (Some (local.Var kind.Char)) h = absurd (cc)
pointer_variable (Some (local.Var kind.Ptr)) h = (kind.Ptr, refl)
pointer_variable (Some (local.Var kind.Pptr)) h = (kind.Pptr, refl)
pointer_variable (Some (local.Var kind.Iptr)) h = (kind.Iptr, refl)

same_variables : (b d : Option LocalBody) → same_pointers (option_map meant_by_local b) (option_map meant_by_local d) ≡ true → (k : VarKind) × (b ≡ Some (local.Var k)) × (d ≡ Some (local.Var k))
same_variables None d h = absurd (cc)
same_variables (Some (local.Buffer n)) d h = absurd (cc)
same_variables (Some local.PointerCell) d h = absurd (cc)
same_variables (Some local.IntCell) d h = absurd (cc)
same_variables (Some (local.Var kind.Int)) d h = absurd (cc)
same_variables (Some (local.Var kind.Char)) d h = absurd (cc)
same_variables (Some (local.Var kind.Ptr)) d h = (kind.Ptr, refl, ptr_variable d h)
same_variables (Some (local.Var kind.Pptr)) d h = (kind.Pptr, refl, pptr_variable d h)
same_variables (Some (local.Var kind.Iptr)) d h = (kind.Iptr, refl, iptr_variable d h)

-- what a cell holds is plain, and a pointer to a cell
held_kinds : (b d : Option LocalBody) → held_by (option_map meant_by_local b) (option_map meant_by_local d) ≡ true →
    ((means_ptr (option_map meant_by_local b) ≡ true) ⊎ (means_number (option_map meant_by_local b) ≡ true)) × ((means_pptr (option_map meant_by_local d) ≡ true) ⊎ (means_iptr (option_map meant_by_local d) ≡ true))
held_kinds b None h = absurd (cc)
held_kinds b (Some (local.Buffer n)) h = absurd (cc)
held_kinds b (Some local.PointerCell) h = absurd (cc)
held_kinds b (Some local.IntCell) h = absurd (cc)
held_kinds b (Some (local.Var kind.Int)) h = absurd (cc)
held_kinds b (Some (local.Var kind.Char)) h = absurd (cc)
held_kinds b (Some (local.Var kind.Ptr)) h = absurd (cc)
held_kinds b (Some (local.Var kind.Pptr)) h = (inl h, inl refl)
held_kinds b (Some (local.Var kind.Iptr)) h = (inr h, inr refl)

-- a pointer to an object, by its kind
points_kinds : (b d : Option LocalBody) → points_to (option_map meant_by_local b) (option_map meant_by_local d) ≡ true → (k : VarKind) × (b ≡ Some (local.Var k)) × ((is_cell_kind k ≡ false) ⊎ IsCellBody d)
points_kinds None d h = absurd (cc)
points_kinds (Some (local.Buffer n)) d h = absurd (cc)
points_kinds (Some local.PointerCell) d h = absurd (cc)
points_kinds (Some local.IntCell) d h = absurd (cc)
points_kinds (Some (local.Var kind.Int)) d h = absurd (cc)
points_kinds (Some (local.Var kind.Char)) d h = absurd (cc)
points_kinds (Some (local.Var kind.Ptr)) d h = (kind.Ptr, refl, inl refl)
points_kinds (Some (local.Var kind.Pptr)) None h = absurd (cc)
points_kinds (Some (local.Var kind.Pptr)) (Some (local.Var j)) h = absurd (cc)
points_kinds (Some (local.Var kind.Pptr)) (Some (local.Buffer n)) h = absurd (cc)
points_kinds (Some (local.Var kind.Pptr)) (Some local.PointerCell) h = (kind.Pptr, refl, inr refl)
points_kinds (Some (local.Var kind.Pptr)) (Some local.IntCell) h = absurd (cc)
points_kinds (Some (local.Var kind.Iptr)) None h = absurd (cc)
points_kinds (Some (local.Var kind.Iptr)) (Some (local.Var j)) h = absurd (cc)
points_kinds (Some (local.Var kind.Iptr)) (Some (local.Buffer n)) h = absurd (cc)
points_kinds (Some (local.Var kind.Iptr)) (Some local.PointerCell) h = absurd (cc)
points_kinds (Some (local.Var kind.Iptr)) (Some local.IntCell) h = (kind.Iptr, refl, inr refl)

-- the tests of a statement, as tests of what its names are declared as
same_is : (P : Program) (f : Proc) (p q : Name) → same_pointers (meant_in P f p) (meant_in P f q) ≡ same_pointers (option_map meant_by_local (body_of P f p)) (option_map meant_by_local (body_of P f q))
same_is P f p q = ap (λ m. same_pointers m (meant_in P f q)) (means_is P f p) ∙ ap (λ m. same_pointers (option_map meant_by_local (body_of P f p)) m) (means_is P f q)

held_is : (P : Program) (f : Proc) (x w : Name) → held_by (meant_in P f x) (meant_in P f w) ≡ held_by (option_map meant_by_local (body_of P f x)) (option_map meant_by_local (body_of P f w))
held_is P f x w = ap (λ m. held_by m (meant_in P f w)) (means_is P f x) ∙ ap (λ m. held_by (option_map meant_by_local (body_of P f x)) m) (means_is P f w)

points_is : (P : Program) (f : Proc) (p a : Name) → points_to (meant_in P f p) (meant_in P f a) ≡ points_to (option_map meant_by_local (body_of P f p)) (option_map meant_by_local (body_of P f a))
points_is P f p a = ap (λ m. points_to m (meant_in P f a)) (means_is P f p) ∙ ap (λ m. points_to (option_map meant_by_local (body_of P f p)) m) (means_is P f a)

copied_kinds : (P : Program) (f : Proc) (p q : Name) → same_pointers (meant_in P f p) (meant_in P f q) ≡ true → (k : VarKind) × (body_of P f p ≡ Some (local.Var k)) × (body_of P f q ≡ Some (local.Var k))
copied_kinds P f p q h = same_variables (body_of P f p) (body_of P f q) (sym (same_is P f p q) ∙ h)

pointed_kinds : (P : Program) (f : Proc) (p a : Name) → points_to (meant_in P f p) (meant_in P f a) ≡ true →
    (k : VarKind) × (body_of P f p ≡ Some (local.Var k)) × ((is_cell_kind k ≡ false) ⊎ IsCellBody (body_of P f a))
pointed_kinds P f p a h = points_kinds (body_of P f p) (body_of P f a) (sym (points_is P f p a) ∙ h)

-- what x is given, and what w points to
kept_kinds : (P : Program) (f : Proc) (x w : Name) → held_by (meant_in P f x) (meant_in P f w) ≡ true →
    ((means_ptr (meant_in P f x) ≡ true) ⊎ (means_number (meant_in P f x) ≡ true)) × ((means_pptr (meant_in P f w) ≡ true) ⊎ (means_iptr (meant_in P f w) ≡ true))
kept_kinds P f x w h =
    let k = held_kinds (body_of P f x) (body_of P f w) (sym (held_is P f x w) ∙ h) in (
      elim (k.0) [ inl p ↦ inl (ap means_ptr (means_is P f x) ∙ p) | inr p ↦ inr (ap means_number (means_is P f x) ∙ p) ],
      elim (k.1) [ inl p ↦ inl (ap means_pptr (means_is P f w) ∙ p) | inr p ↦ inr (ap means_iptr (means_is P f w) ∙ p) ],
    )

-- ---- readiness

if_live : (m : Memory) (p : Ptr) → PointsToCell m p → IsCellIfLive m p
if_live m Null h = tt
if_live m Wild h = tt
if_live m (At o at) h = λ _. h

cell_of_pptr : (P : Program) (f : Proc) (s : State) (w : Name) → IsFit f s.memory s.vars → means_pptr (meant_in P f w) ≡ true → IsCellIfLive s.memory (pointer (s.vars w))
cell_of_pptr P f s w h e = let k = pptr_is P f w e in if_live s.memory (pointer (s.vars w)) ((h w).cell (ap is_cell_kind k.0))

cell_of_iptr : (P : Program) (f : Proc) (s : State) (w : Name) → IsFit f s.memory s.vars → means_iptr (meant_in P f w) ≡ true → IsCellIfLive s.memory (pointer (s.vars w))
cell_of_iptr P f s w h e = let k = iptr_is P f w e in if_live s.memory (pointer (s.vars w)) ((h w).cell (ap is_cell_kind k.0))

put_ready : (P : Program) (f : Proc) (s : State) (w : Name) (e : AnyOperand) → IsFit f s.memory s.vars → puts P f w e ≡ true → IsCellIfLive s.memory (pointer (s.vars w))
put_ready P f s w any.Null h e = cell_of_pptr P f s w h e
put_ready P f s w (any.Operand (operand.Number z)) h e = cell_of_iptr P f s w h e
put_ready P f s w (any.Operand (operand.Var x)) h e =
    elim ((kept_kinds P f x w e).1) [ inl p ↦ cell_of_pptr P f s w h p | inr p ↦ cell_of_iptr P f s w h p ]

copy_slot : (P : Program) (f : Proc) (p : Name) (q : Option Name) → copies P f p q ≡ true → HasSlot f p
copy_slot P f p None h = let k = pointer_variable (body_of P f p) (ap means_pointer (sym (means_is P f p)) ∙ h) in (variable_is P f p k.0 k.1).1
copy_slot P f p (Some q) h = let k = copied_kinds P f p q h in (variable_is P f p k.0 k.1).1

got_slot : (P : Program) (f : Proc) (x w : Name) → held_by (meant_in P f x) (meant_in P f w) ≡ true → (is_cell_kind (kind_of f x) ≡ false) × HasSlot f x
got_slot P f x w h = elim ((kept_kinds P f x w h).0) [ inl p ↦ ptr_plain P f x p | inr p ↦ number_plain P f x p ]

pub ready : (P : Program) (f : Proc) (s : State) (form : Form) → has_kinds P f form ≡ true → IsForm form → IsFit f s.memory s.vars → IsReady f s.vars s.memory form
ready P f s (form.Assign x e) h w i = (number_plain P f x (first_true _ _ h)).1
ready P f s (form.Sum x d e) h w i = (number_plain P f x (first_true _ _ (first_true _ _ h))).1
ready P f s (form.Minus x d e) h w i = (number_plain P f x (first_true _ _ (first_true _ _ h))).1
ready P f s (form.Product x z e) h w i = (number_plain P f x (first_true _ _ h)).1
ready P f s (form.Quotient x e z) h w i = ((number_plain P f x (first_true _ _ h)).1, w.2)
ready P f s (form.Remainder x e z) h w i = ((number_plain P f x (first_true _ _ h)).1, w.2)
ready P f s (form.CopyPtr p q) h w i = copy_slot P f p q h
ready P f s (form.Address p a) h w i = let k = pointed_kinds P f p a h in (variable_is P f p k.0 k.1).1
ready P f s (form.Shift p q e) h w i = (ptr_plain P f p (first_true _ _ (first_true _ _ h))).1
ready P f s (form.Load x p) h w i = (number_plain P f x (first_true _ _ h)).1
ready P f s (form.Store p e) h w i = tt
ready P f s (form.Get x v) h w i = (got_slot P f x v h).1
ready P f s (form.Put v e) h w i = put_ready P f s v e i h
ready P f s (form.Diff x p q) h w i = ((number_plain P f x (first_true _ _ (first_true _ _ h))).1, (i p).near, (i q).near)
ready P f s (form.Goto to) h w i = tt
ready P f s (form.If e r d to) h w i = tt
ready P f s (form.IfByte p equal to) h w i = tt
ready P f s (form.Call into g args) h w i = tt
ready P f s (form.Return e) h w i = tt

-- ---- soundness

-- a state behind another of one frame
pub record IsNext (P : Program) (f : Frame) (s t : State) : Type 0 where
  pub state : IsState P f t
  pub keeps : Keeps s.memory t.memory
  pub length : length t.memory ≡ length s.memory

pub var_next : (P : Program) (f : Frame) (s : State) (x : Name) (v : Value) → IsState P f s → Fits f.proc s.memory x v → IsNext P f s (with_var x v s)
var_next P f s x v i fits = record {
  state = record { fit = fit_set f.proc s.memory s.vars x v i.fit fits; memory = i.memory; globals = i.globals; locals = i.locals };
  keeps = λ o c. c;
  length = refl;
}

plain_next : (P : Program) (f : Frame) (s : State) (x : Name) (v : Value) → IsState P f s → is_cell_kind (kind_of f.proc x) ≡ false → IsNear v → IsNext P f s (with_var x v s)
plain_next P f s x v i plain near = var_next P f s x v i (plain_fits f.proc s.memory x v plain near)

pub assign_next : (P : Program) (f : Frame) (s : State) (x : Name) (z : ℤ) → IsState P f s → is_cell_kind (kind_of f.proc x) ≡ false → IsNext P f s (assign P f x z s)
assign_next P f s x z i plain = plain_next P f s x (as_kind P (kind_of f.proc x) z) i plain (kind_near P (kind_of f.proc x) z)

pub assign_value_next : (P : Program) (f : Frame) (s : State) (x : Name) (v : Value) → IsState P f s → is_cell_kind (kind_of f.proc x) ≡ false → IsNear v → IsNext P f s (assign_value P f x v s)
assign_value_next P f s x (value.Int z) i plain near = assign_next P f s x z i plain
assign_value_next P f s x (value.Ptr p) i plain near = plain_next P f s x (value.Ptr p) i plain near

same_next : (P : Program) (f : Frame) (s : State) → IsState P f s → IsNext P f s s
same_next P f s i = record { state = i; keeps = λ o c. c; length = refl }

spend_next : (P : Program) (f : Frame) (s : State) (n : ℕ) → IsState P f s → IsNext P f s (spend n s)
spend_next P f s n i = record { state = record { fit = i.fit; memory = i.memory; globals = i.globals; locals = i.locals }; keeps = λ o c. c; length = refl }

memory_next : (P : Program) (f : Frame) (s : State) (m : Memory) → IsState P f s → IsAfter s.memory m → IsNext P f s (record s { memory = m })
memory_next P f s m i a = record {
  state = record {
    fit = fit_keeps f.proc s.memory m s.vars a.keeps i.fit;
    memory = a.memory;
    globals = λ j g at c. a.keeps j (i.globals j g at c);
    locals = λ j l at c. a.keeps (f.permit.first + j) (i.locals j l at c);
  };
  keeps = a.keeps;
  length = a.length;
}

-- the state at the next statement
abbrev pub Nexts : Program → Frame → State → Next → Type 0
Nexts P f s next = All_ok next (λ (r : ℕ × State). IsNext P f s r.1)

ranged_next : (P : Program) (f : Frame) (k : ℕ) (x : Name) (z : ℤ) (s : State) → IsState P f s → is_cell_kind (kind_of f.proc x) ≡ false → Nexts P f s (ranged P f k x z s)
ranged_next P f k x z s i plain = unless_all (is_int z) err.Range (goes k (assign P f x z s)) (λ (r : ℕ × State). IsNext P f s r.1) (λ _. assign_next P f s x z i plain)

jumps_next : (P : Program) (f : Frame) (s t : State) (b : Bool) (to k : ℕ) → IsNext P f s t → Nexts P f s (jumps b to k t)
jumps_next P f s t true to k h = h
jumps_next P f s t false to k h = h

either_next : (P : Program) (f : Frame) (s : State) (b c d : Bool) (to k : ℕ) → IsState P f s → Nexts P f s (if b then jumps c to k (spend 1 s) else jumps d to k s)
either_next P f s true c d to k i = jumps_next P f s (spend 1 s) c to k (spend_next P f s 1 i)
either_next P f s false c d to k i = jumps_next P f s s d to k (same_next P f s i)

pointers_next : (P : Program) (f : Frame) (r : Rel) (p q : Ptr) (to k : ℕ) (s : State) → IsState P f s → Nexts P f s (branch_pointers r p q to k s)
pointers_next P f r p q to k s i = either_next P f s _ _ _ to k i

branch_next : (P : Program) (f : Frame) (r : Rel) (u v : Value) (to k : ℕ) (s : State) → IsState P f s → Nexts P f s (branch r u v to k s)
branch_next P f r (value.Ptr p) v to k s i = pointers_next P f r p (pointer v) to k s i
branch_next P f r (value.Int z) v to k s i = jumps_next P f s s _ to k (same_next P f s i)

copied_fits : (P : Program) (f : Frame) (s : State) (p : Name) (q : Option Name) → copies P f.proc p q ≡ true → IsState P f s → Fits f.proc s.memory p (copied s q)
copied_fits P f s p None h i = record { near = tt; cell = λ c. tt }
copied_fits P f s p (Some q) h i =
    let k = copied_kinds P f.proc p q h in
    let kp : kind_of f.proc p ≡ k.0 = (variable_is P f.proc p k.0 k.1).0 in
    let kq : kind_of f.proc q ≡ k.0 = (variable_is P f.proc q k.0 k.2).0 in
    let g : Fits f.proc s.memory q (s.vars q) = i.fit q in
    record { near = g.near; cell = λ c. g.cell (ap is_cell_kind (kq ∙ sym kp) ∙ c) }

address_fits : (P : Program) (f : Frame) (s : State) (p a : Name) → points_to (meant_in P f.proc p) (meant_in P f.proc a) ≡ true → IsState P f s →
    Fits f.proc s.memory p (value.Ptr (At (address P f a) 0))
address_fits P f s p a h i =
    let k = pointed_kinds P f.proc p a h in
    let kp : kind_of f.proc p ≡ k.0 = (variable_is P f.proc p k.0 k.1).0 in
    elim (k.2) [
      | inl plain ↦ plain_fits f.proc s.memory p (value.Ptr (At (address P f a) 0)) (ap is_cell_kind kp ∙ plain) (omega arith)
      | inr cell ↦ record { near = omega arith; cell = λ _. address_cell P f a s.memory i.globals i.locals cell }
    ]

anything : {A : Type 0} (c : Checked A) → All_ok c (λ _. Unit {0})
anything (Ok x) = tt
anything (Err e) = tt

pub step_sound : (P : Program) (f : Frame) (k : ℕ) (form : Form) (s : State) → has_kinds P f.proc form ≡ true → IsState P f s → Nexts P f s (step P f k form s)
unfolding step
step_sound P f k (form.Assign x e) s h i = assign_next P f s x (value_of s e) i (number_plain P f.proc x (first_true _ _ h)).0
step_sound P f k (form.Sum x d e) s h i = ranged_next P f k x (value_of s d +ℤ value_of s e) s i (number_plain P f.proc x (first_true _ _ (first_true _ _ h))).0
step_sound P f k (form.Minus x d e) s h i = ranged_next P f k x (value_of s d -ℤ value_of s e) s i (number_plain P f.proc x (first_true _ _ (first_true _ _ h))).0
step_sound P f k (form.Product x z e) s h i = ranged_next P f k x (z *ℤ value_of s e) s i (number_plain P f.proc x (first_true _ _ h)).0
step_sound P f k (form.Quotient x e z) s h i = assign_next P f s x (int_div (value_of s e) z) i (number_plain P f.proc x (first_true _ _ h)).0
step_sound P f k (form.Remainder x e z) s h i = assign_next P f s x (int_rem (value_of s e) z) i (number_plain P f.proc x (first_true _ _ h)).0
step_sound P f k (form.CopyPtr p q) s h i = var_next P f s p (copied s q) i (copied_fits P f s p q h i)
step_sound P f k (form.Address p a) s h i = var_next P f s p (value.Ptr (At (address P f a) 0)) i (address_fits P f s p a h i)
step_sound P f k (form.Shift p q e) s h i =
    bind_all (shift s.memory (pointer_of s q) (value_of s e)) (λ r. goes k (with_var p (value.Ptr r) s)) IsNearPtr (λ (r : ℕ × State). IsNext P f s r.1) (shift_near s.memory (pointer_of s q) (value_of s e) i.memory)
    (λ r near. plain_next P f s p (value.Ptr r) i (ptr_plain P f.proc p (first_true _ _ (first_true _ _ h))).0 near)
step_sound P f k (form.Load x p) s h i =
    bind_all (load s.memory (pointer_of s p)) (λ b. goes k (assign P f x (char_of P (pos b)) s)) (λ _. Unit {0}) (λ (r : ℕ × State). IsNext P f s r.1) (anything (load s.memory (pointer_of s p))) (λ b _. assign_next P f s x (char_of P (pos b)) i (number_plain P f.proc x (first_true _ _ h)).0)
step_sound P f k (form.Store p e) s h i = bind_all (store s.memory (pointer_of s p) (low_byte (value_of s e)) f.permit) (λ m. goes k (record s { memory = m })) (IsAfter s.memory) (λ (r : ℕ × State). IsNext P f s r.1) (store_after s.memory (pointer_of s p) (low_byte (value_of s e)) f.permit i.memory) (λ m a. memory_next P f s m i a)
step_sound P f k (form.Get x w) s h i =
    bind_all (get s.memory (pointer_of s w)) (λ v. goes k (assign_value P f x v s)) IsNear (λ (r : ℕ × State). IsNext P f s r.1) (get_near s.memory (pointer_of s w) i.memory) (λ v near. assign_value_next P f s x v i (got_slot P f.proc x w h).0 near)
step_sound P f k (form.Put w e) s h i =
    bind_all (put s.memory (pointer_of s w) (any_value s.vars e) f.permit) (λ m. goes k (record s { memory = m })) (IsAfter s.memory) (λ (r : ℕ × State). IsNext P f s r.1) (put_after s.memory (pointer_of s w) (any_value s.vars e) f.permit i.memory (any_near f.proc s.memory s.vars e i.fit)) (λ m a. memory_next P f s m i a)
step_sound P f k (form.Diff x p q) s h i =
    bind_all (diff s.memory (pointer_of s p) (pointer_of s q)) (λ z. goes k (assign P f x z s)) (λ _. Unit {0}) (λ (r : ℕ × State). IsNext P f s r.1) (anything (diff s.memory (pointer_of s p) (pointer_of s q))) (λ z _. assign_next P f s x z i (number_plain P f.proc x (first_true _ _ (first_true _ _ h))).0)
step_sound P f k (form.Goto to) s h i = same_next P f s i
step_sound P f k (form.If e r d to) s h i = branch_next P f r (operand_value s.vars e) (any_value s.vars d) to k s i
step_sound P f k (form.IfByte p equal to) s h i =
    bind_all (load s.memory (pointer_of s p)) (λ b. jumps (by_rel (if equal then rel.Eq else rel.Ne) (b == 0)) to k s) (λ _. Unit {0}) (λ (r : ℕ × State). IsNext P f s r.1) (anything (load s.memory (pointer_of s p))) (λ b _. jumps_next P f s s (by_rel (if equal then rel.Eq else rel.Ne) (b == 0)) to k (same_next P f s i))
step_sound P f k (form.Call into g args) s h i = same_next P f s i
step_sound P f k (form.Return e) s h i = same_next P f s i
