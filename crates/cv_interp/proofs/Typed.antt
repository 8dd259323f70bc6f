-- A step that is no call and no return leads from a sound state to a sound one.
use Rattle.std.proofs.Common.{◌≡◌, refl, sym, ap, subst, ◌∙◌, ℕ, zero, suc, ◌<◌, ◌^◌, Bool, true, false, List, [], ◌∷◌, length, Option, Some, None, Ok, Err, arith, ℤ, pos, negsuc, ◌+ℤ◌}
use Rattle.std.specs.Prelude.{slice_get, slice_set, nat_le, nat_lt, IsSome}
use Rattle.std.specs.Str.{bytes_eq}
use Rattle.std.proofs.lemmas.Bool.{leb-true, ltb-true}
use Rattle.std.proofs.lemmas.Slice.Eq.{bytes_eq-Decides}
use Rattle.cv_core.specs.Names.{Name, kind_of}
use Rattle.cv_core.specs.declared.faults.ErrKind.{ErrKind}
use Rattle.cv_core.specs.declared.faults.ErrKind.TheVariants as err
use Rattle.cv_core.specs.declared.program.Program.{Program}
use Rattle.cv_core.specs.declared.program.Proc.{Proc}
use Rattle.cv_core.specs.declared.program.AnyOperand.{AnyOperand}
use Rattle.cv_core.specs.declared.program.AnyOperand.TheVariants as any
use Rattle.cv_core.specs.declared.program.Operand.{Operand}
use Rattle.cv_core.specs.declared.program.Operand.TheVariants as operand
use Rattle.cv_core.specs.declared.program.VarKind.{VarKind}
use Rattle.cv_core.specs.declared.program.VarKind.TheVariants as kind
use Rattle.cv_meaning.specs.declared.memory.Object.{Object}
use Rattle.cv_meaning.specs.declared.memory.Body.{Body}
use Rattle.cv_meaning.specs.declared.memory.Body.TheVariants.{Buffer, Cell}
use Rattle.cv_meaning.specs.declared.memory.Permit.{Permit}
use Rattle.cv_meaning.specs.declared.memory.Ptr.{Ptr}
use Rattle.cv_meaning.specs.declared.memory.Ptr.TheVariants.{Null, Wild, At}
use Rattle.cv_meaning.specs.declared.memory.Value.{Value}
use Rattle.cv_meaning.specs.Checked.{Checked, ◌>>=◌, unless}
use Rattle.cv_meaning.specs.Contract.{Env}
use Rattle.cv_meaning.specs.Memory.{IsShort, Memory, Place, bytes_of, cell_held, cell_in, cell_of, get, is_inside, is_no_literal, may_change, place, place_at, put, shift, store, with_body, within, writable}
use Rattle.cv_meaning.specs.State.{any_value, as_kind, operand_value, pointer, set}
use Rattle.cv_interp.proofs.Memories.{IsObject, put_keeps, put_memory, set_length}
use Rattle.cv_interp.specs.Sound.{Fits, IsFit, IsMemory, Keeps, PointsToCell, is_cell_kind}
use Rattle.cv_interp.specs.Takes.{IsNear, IsNearPtr}

-- ---- what holds of each Ok

abbrev pub All_ok : {A : Type 0} → Checked A → (A → Type 0) → Type 0
All_ok (Ok x) Q = Q x
All_ok (Err e) Q = Unit {0}

pub bind_all : {A B : Type 0} (c : Checked A) (g : A → Checked B) (R : A → Type 0) (Q : B → Type 0) → All_ok c R → ((x : A) → R x → All_ok (g x) Q) → All_ok (c >>= g) Q
bind_all (Ok x) g R Q h k = k x h
bind_all (Err e) g R Q h k = tt

pub unless_all : {A : Type 0} (b : Bool) (e : ErrKind) (c : Checked A) (Q : A → Type 0) → (b ≡ true → All_ok c Q) → All_ok (unless b e c) Q
unless_all true e c Q h = h refl
unless_all false e c Q h = tt

-- ---- variables

same_name : (x y : Name) → bytes_eq x y ≡ true → x ≡ y
same_name x y h = (bytes_eq-Decides x y).0 h

pub fit_set : (f : Proc) (m : Memory) (vars : Env) (x : Name) (v : Value) → IsFit f m vars → Fits f m x v → IsFit f m (set vars x v)
fit_set f m vars x v h g = λ y. by_name y (bytes_eq x y) refl
  where
    by_name : (y : Name) (b : Bool) → bytes_eq x y ≡ b → Fits f m y (set vars x v y)
    by_name y true e = rw e (subst (λ (n : Name). Fits f m n v) (same_name x y e) g)
    by_name y false e = rw e (h y)

points_keep : (m n : Memory) (p : Ptr) → Keeps m n → PointsToCell m p → PointsToCell n p
points_keep m n Null k h = tt
points_keep m n Wild k h = tt
points_keep m n (At o at) k h = k o h

pub fit_keeps : (f : Proc) (m n : Memory) (vars : Env) → Keeps m n → IsFit f m vars → IsFit f n vars
fit_keeps f m n vars k h = λ x. let g = h x in record { near = g.near; cell = λ c. points_keep m n (pointer (vars x)) k (g.cell c) }

no_cell : {A : Type 0} (b : Bool) → b ≡ false → b ≡ true → A
no_cell true h k = absurd (cc)
no_cell false h k = absurd (cc)

pub plain_fits : (f : Proc) (m : Memory) (x : Name) (v : Value) → is_cell_kind (kind_of f x) ≡ false → IsNear v → Fits f m x v
plain_fits f m x v plain near = record { near = near; cell = λ c. no_cell (is_cell_kind (kind_of f x)) plain c }

pub kind_near : (P : Program) (k : VarKind) (z : ℤ) → IsNear (as_kind P k z)
kind_near P kind.Char z = tt
kind_near P kind.Int z = tt
kind_near P kind.Ptr z = tt
kind_near P kind.Pptr z = tt
kind_near P kind.Iptr z = tt

pub operand_near : (f : Proc) (m : Memory) (vars : Env) (e : Operand) → IsFit f m vars → IsNear (operand_value vars e)
operand_near f m vars (operand.Var x) h = (h x).near
operand_near f m vars (operand.Number z) h = tt

pub any_near : (f : Proc) (m : Memory) (vars : Env) (e : AnyOperand) → IsFit f m vars → IsNear (any_value vars e)
any_near f m vars (any.Operand e) h = operand_near f m vars e h
any_near f m vars any.Null h = tt

-- ---- places

-- a place of a memory, with its object
abbrev pub IsPlace : Memory → Place → Type 0
IsPlace m at = (x : Object) × (slice_get m at.object ≡ Some x) × (x.body ≡ at.body)

place_by : (m : Memory) (o at : ℕ) (x : Option Object) → slice_get m o ≡ x → All_ok (place_at o at x) (IsPlace m)
place_by m o at None e = tt
place_by m o at (Some x) e = unless_all x.live _ _ (IsPlace m) (λ _. (x, e, refl))

pub place_is : (m : Memory) (p : Ptr) → All_ok (place m p) (IsPlace m)
place_is m Null = tt
place_is m Wild = tt
place_is m (At o at) = place_by m o at (slice_get m o) refl

within_near : (o size : ℕ) (z : ℤ) → size < 2 ^ 31 → All_ok (within o size z) IsNearPtr
within_near o size (pos at) h = unless_all (nat_le at size) _ _ IsNearPtr (λ le. let l = leb-true at size le in omega arith)
within_near o size (negsuc n) h = tt

pub shift_near : (m : Memory) (p : Ptr) (z : ℤ) → IsMemory m → All_ok (shift m p z) IsNearPtr
shift_near m p z h =
    bind_all (place m p) _ (IsPlace m) IsNearPtr (place_is m p)
    (λ at (x, is, same). within_near at.object (length (bytes_of at.body)) (pos at.offset +ℤ z) (subst IsShort same (h.short at.object x is)))

cell_near : (m : Memory) (at : Place) → IsMemory m → IsPlace m at → IsNear (cell_of at.body)
cell_near m at h (x, is, same) = subst (λ (b : Body). IsNear (cell_of b)) same (by_body x.body refl)
  where
    by_body : (b : Body) → x.body ≡ b → IsNear (cell_of x.body)
    by_body (Buffer bytes) e = rw e tt
    by_body (Cell v) e = rw e (h.near at.object v (ap cell_held is ∙ ap cell_in e))

pub get_near : (m : Memory) (p : Ptr) → IsMemory m → All_ok (get m p) IsNear
get_near m p h = bind_all (place m p) _ (IsPlace m) IsNear (place_is m p) (λ at i. cell_near m at h i)

-- ---- writes

-- a memory after a step
pub record IsAfter (m n : Memory) : Type 0 where
  pub memory : IsMemory n
  pub keeps : Keeps m n
  pub length : length n ≡ length m

body_length : (m : Memory) (o : ℕ) (x : Object) (b : Body) → slice_get m o ≡ Some x → with_body o b m ≡ slice_set m o (record x { body = b })
body_length m o x b e = rw e refl

after_body : (m : Memory) (o : ℕ) (x : Object) (b : Body) → IsMemory m → slice_get m o ≡ Some x → IsObject (record x { body = b }) → (IsSome (cell_in x.body) → IsSome (cell_in b)) →
    IsAfter m (with_body o b m)
after_body m o x b h e fine cells =
    subst (λ (n : Memory). IsAfter m n) (sym (body_length m o x b e)) (record {
      memory = put_memory m o x (record x { body = b }) h e fine;
      keeps = put_keeps m o x (record x { body = b }) e cells;
      length = set_length m o (record x { body = b });
    })

bytes_length : (xs : List ℕ) (i y : ℕ) → length (slice_set xs i y) ≡ length xs
bytes_length [] zero y = refl
bytes_length [] (suc i) y = refl
bytes_length (x ∷ xs) zero y = refl
bytes_length (x ∷ xs) (suc i) y = ap suc (bytes_length xs i y)

no_bytes : (b : Body) (i : ℕ) → nat_lt i (length (bytes_of b)) ≡ true → IsSome (cell_in b) → ⊥
no_bytes (Buffer bytes) i inside c = cc
no_bytes (Cell v) i inside c = let lt : i < 0 = ltb-true i 0 inside in absurd (omega arith)

byte_after : (m : Memory) (at : Place) (byte : ℕ) → IsMemory m → IsPlace m at → is_inside at ≡ true →
    IsAfter m (with_body at.object (Buffer (slice_set (bytes_of at.body) at.offset byte)) m)
byte_after m at byte h (x, is, same) inside =
    after_body m at.object x (Buffer (slice_set (bytes_of at.body) at.offset byte)) h is
    (record {
      short = subst (λ n. n < 2 ^ 31) (sym (bytes_length (bytes_of at.body) at.offset byte)) (subst IsShort same (h.short at.object x is));
      near = λ v e. absurd (cc);
    })
    (λ c. absurd (no_bytes x.body at.offset (subst (λ (b : Body). nat_lt at.offset (length (bytes_of b)) ≡ true) (sym same) inside) c))

written_after : (m n : Memory) (permit : Permit) (o : ℕ) → IsAfter m n → All_ok (writable permit o (Ok n)) (IsAfter m)
written_after m n permit o h =
    unless_all (is_no_literal permit o) err.Literal (unless (may_change permit o) err.Modifies (Ok n)) (IsAfter m)
    (λ _. unless_all (may_change permit o) err.Modifies (Ok n) (IsAfter m) (λ _. h))

pub store_after : (m : Memory) (p : Ptr) (byte : ℕ) (permit : Permit) → IsMemory m → All_ok (store m p byte permit) (IsAfter m)
store_after m p byte permit h =
    bind_all (place m p) _ (IsPlace m) (IsAfter m) (place_is m p)
    (λ at i. unless_all (is_inside at) err.Bounds (writable permit at.object (Ok (with_body at.object (Buffer (slice_set (bytes_of at.body) at.offset byte)) m))) (IsAfter m)
    (λ inside. written_after m (with_body at.object (Buffer (slice_set (bytes_of at.body) at.offset byte)) m) permit at.object (byte_after m at byte h i inside)))

pub put_after : (m : Memory) (p : Ptr) (v : Value) (permit : Permit) → IsMemory m → IsNear v → All_ok (put m p v permit) (IsAfter m)
put_after m p v permit h near =
    bind_all (place m p) _ (IsPlace m) (IsAfter m) (place_is m p)
    (λ at (x, is, same). unless_all (may_change permit at.object) _ _ (IsAfter m) (λ _.
    after_body m at.object x (Cell v) h is (record { short = omega arith; near = λ w e. let s : v ≡ w = cc in subst IsNear s near }) (λ _. refl)))
