-- Memories after a change of one object, and after one more.
use Rattle.std.proofs.Common.{◌≡◌, refl, sym, ap, subst, ◌∙◌, ℕ, zero, suc, ◌⊎◌, inl, inr, false, [], ◌∷◌, ◌++◌, length, Option, Some, None}
use Rattle.std.specs.Prelude.{slice_get, slice_set, IsSome}
use Rattle.cv_meaning.specs.declared.memory.Object.{Object}
use Rattle.cv_meaning.specs.declared.memory.Value.{Value}
use Rattle.cv_meaning.specs.Memory.{IsShort, Memory, cell_at, cell_held, cell_in, kill, kill_from, live_ended}
use Rattle.cv_interp.specs.Sound.{IsMemory, Keeps}
use Rattle.cv_interp.specs.Takes.{IsNear}

-- ---- one object put for another

pub set_cases : (m : Memory) (o i : ℕ) (x y : Object) → slice_get m o ≡ Some x →
    ((i ≡ o) × (slice_get (slice_set m o y) i ≡ Some y)) ⊎ (slice_get (slice_set m o y) i ≡ slice_get m i)
set_cases [] zero i x y e = absurd (cc)
set_cases [] (suc o) i x y e = absurd (cc)
set_cases (z ∷ m) zero zero x y e = inl (refl, refl)
set_cases (z ∷ m) zero (suc i) x y e = inr refl
set_cases (z ∷ m) (suc o) zero x y e = inr refl
set_cases (z ∷ m) (suc o) (suc i) x y e = elim (set_cases m o i x y e) [ inl h ↦ inl (ap suc h.0, h.1) | inr h ↦ inr h ]

pub set_length : (m : Memory) (o : ℕ) (y : Object) → length (slice_set m o y) ≡ length m
set_length [] zero y = refl
set_length [] (suc o) y = refl
set_length (z ∷ m) zero y = refl
set_length (z ∷ m) (suc o) y = ap suc (set_length m o y)

-- the object y may stand in a memory
pub record IsObject (y : Object) : Type 0 where
  pub short : IsShort y.body
  pub near : (v : Value) → cell_in y.body ≡ Some v → IsNear v

some_same : (x y : Object) → Some x ≡ Some y → x ≡ y
some_same x y e = cc

pub put_memory : (m : Memory) (o : ℕ) (x y : Object) → IsMemory m → slice_get m o ≡ Some x → IsObject y → IsMemory (slice_set m o y)
put_memory m o x y h at fine = record {
  near = λ i v e. elim (set_cases m o i x y at) [
    | inl p ↦ fine.near v (sym (ap cell_held p.1) ∙ e)
    | inr p ↦ h.near i v (sym (ap cell_held p) ∙ e)
  ];
  short = λ i z e. elim (set_cases m o i x y at) [
    | inl p ↦ subst (λ (w : Object). IsShort w.body) (some_same y z (sym p.1 ∙ e)) fine.short
    | inr p ↦ h.short i z (sym p ∙ e)
  ];
}

pub put_keeps : (m : Memory) (o : ℕ) (x y : Object) → slice_get m o ≡ Some x → (IsSome (cell_in x.body) → IsSome (cell_in y.body)) → Keeps m (slice_set m o y)
put_keeps m o x y at cells = λ i c. elim (set_cases m o i x y at) [
  | inl p ↦ subst (λ (w : Option Object). IsSome (cell_held w)) (sym p.1)
      (cells (subst (λ (w : Option Object). IsSome (cell_held w)) at (subst (λ k. IsSome (cell_at m k)) p.0 c)))
  | inr p ↦ subst (λ (w : Option Object). IsSome (cell_held w)) (sym p) c
]

-- ---- one more object

pub append_get : (m : Memory) (i : ℕ) (y z : Object) → slice_get (m ++ y ∷ []) i ≡ Some z → (slice_get m i ≡ Some z) ⊎ (y ≡ z)
append_get [] zero y z e = inr (some_same y z e)
append_get [] (suc zero) y z e = absurd (cc)
append_get [] (suc (suc i)) y z e = absurd (cc)
append_get (x ∷ m) zero y z e = inl e
append_get (x ∷ m) (suc i) y z e = append_get m i y z e

pub append_old : (m : Memory) (i : ℕ) (y x : Object) → slice_get m i ≡ Some x → slice_get (m ++ y ∷ []) i ≡ Some x
append_old [] zero y x e = absurd (cc)
append_old [] (suc i) y x e = absurd (cc)
append_old (z ∷ m) zero y x e = e
append_old (z ∷ m) (suc i) y x e = append_old m i y x e

pub cell_of_object : (o : Option Object) (v : Value) → cell_held o ≡ Some v → (x : Object) × (o ≡ Some x) × (cell_in x.body ≡ Some v)
cell_of_object None v e = absurd (cc)
cell_of_object (Some x) v e = (x, refl, e)

pub some_cell : (o : Option Object) → IsSome (cell_held o) → (x : Object) × (o ≡ Some x) × IsSome (cell_in x.body)
some_cell None e = absurd (cc)
some_cell (Some x) e = (x, refl, e)

pub append_memory : (m : Memory) (y : Object) → IsMemory m → IsObject y → IsMemory (m ++ y ∷ [])
append_memory m y h fine = record {
  near = λ i v e. let (x, at, c) = cell_of_object (slice_get (m ++ y ∷ []) i) v e in elim (append_get m i y x at) [
    | inl p ↦ h.near i v (ap cell_held p ∙ c)
    | inr p ↦ fine.near v (ap (λ (w : Object). cell_in w.body) p ∙ c)
  ];
  short = λ i z e. elim (append_get m i y z e) [ inl p ↦ h.short i z p | inr p ↦ subst (λ (w : Object). IsShort w.body) p fine.short ];
}

pub append_keeps : (m : Memory) (y : Object) → Keeps m (m ++ y ∷ [])
append_keeps m y = λ i c. let (x, at, d) = some_cell (slice_get m i) c in
    subst (λ (w : Option Object). IsSome (cell_held w)) (sym (append_old m i y x at)) d

-- ---- the end of a life

kill_memory_at : (m : Memory) (o : ℕ) (x : Option Object) → slice_get m o ≡ x → IsMemory m → IsMemory (live_ended m o x)
kill_memory_at m o None e h = h
kill_memory_at m o (Some x) e h = put_memory m o x (record x { live = false }) h e (record { short = h.short o x e; near = λ v c. h.near o v (ap cell_held e ∙ c) })

kill_keeps_at : (m : Memory) (o : ℕ) (x : Option Object) → slice_get m o ≡ x → Keeps m (live_ended m o x)
kill_keeps_at m o None e = λ i c. c
kill_keeps_at m o (Some x) e = put_keeps m o x (record x { live = false }) e (λ c. c)

kill_length_at : (m : Memory) (o : ℕ) (x : Option Object) → length (live_ended m o x) ≡ length m
kill_length_at m o None = refl
kill_length_at m o (Some x) = set_length m o (record x { live = false })

pub kill_from_memory : (first count : ℕ) (m : Memory) → IsMemory m → IsMemory (kill_from first count m)
kill_from_memory first zero m h = h
kill_from_memory first (suc count) m h = kill_from_memory (suc first) count (kill first m) (kill_memory_at m first (slice_get m first) refl h)

pub kill_from_keeps : (first count : ℕ) (m : Memory) → Keeps m (kill_from first count m)
kill_from_keeps first zero m = λ i c. c
kill_from_keeps first (suc count) m = λ i c. kill_from_keeps (suc first) count (kill first m) i (kill_keeps_at m first (slice_get m first) refl i c)

pub kill_from_length : (first count : ℕ) (m : Memory) → length (kill_from first count m) ≡ length m
kill_from_length first zero m = refl
kill_from_length first (suc count) m = kill_from_length (suc first) count (kill first m) ∙ kill_length_at m first (slice_get m first)
