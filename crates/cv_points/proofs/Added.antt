-- Rules put behind others: what the longer list asks for.
use Rattle.std.proofs.Common.{refl, ℕ, zero, suc, ◌<◌, ◌≤◌, ◌+◌, List, [], ◌∷◌, ◌++◌, subst, arith, below_more, inl, inr}
use Rattle.std.specs.List.{Contains}
use Rattle.std.proofs.lemmas.Bool.{cases_lt}
use Rattle.cv_core.specs.declared.program.Program.{Program}
use Rattle.cv_points.specs.Closed.{Family, Holds, IsClosed}
use Rattle.cv_points.specs.Growing.{AddsRules, AreRules}
use Rattle.cv_points.specs.declared.rules.Rule.{Rule}

-- ---- one more rule

pub in_longer : {X : Type 0} (xs : List X) (y x : X) → Contains xs x → Contains (xs ++ y ∷ []) x
in_longer [] y x (k, lt, e) = absurd (omega arith)
in_longer (z ∷ xs) y x (zero, lt, e) = (0, omega arith, e)
in_longer (z ∷ xs) y x (suc k, lt, e) = let (j, l, f) = in_longer xs y x (k, omega arith, e) in (suc j, omega arith, f)

pub in_last : {X : Type 0} (xs : List X) (y : X) → Contains (xs ++ y ∷ []) y
in_last [] y = (0, omega arith, refl)
in_last (z ∷ xs) y = let (j, l, f) = in_last xs y in (suc j, omega arith, f)

pub from_longer : {X : Type 0} (P : X → Type 0) (xs : List X) (y : X) → ((x : X) → Contains xs x → P x) → P y → (x : X) → Contains (xs ++ y ∷ []) x → P x
from_longer P [] y h p x (zero, lt, e) = subst P e p
from_longer P [] y h p x (suc k, lt, e) = absurd (omega arith)
from_longer P (z ∷ xs) y h p x (zero, lt, e) = h x (0, omega arith, e)
from_longer P (z ∷ xs) y h p x (suc k, lt, e) = from_longer P xs y (λ w (j, l, f). h w (suc j, omega arith, f)) p x (k, omega arith, e)

pub adds_none : (P : Program) (rs : List Rule) (Q : Family → Type 0) → ((S : Family) → Q S) → AddsRules P rs rs Q
adds_none P rs Q q = record { earlier = λ S h. h; asked = λ S h. q S; enough = λ S h k. h }

pub adds_one : (P : Program) (rs : List Rule) (r : Rule) → AddsRules P rs (rs ++ r ∷ []) (λ S. Holds P S r)
adds_one P rs r = record {
  earlier = λ S h x c. h x (in_longer rs r x c);
  asked = λ S h. h r (in_last rs r);
  enough = λ S h q. from_longer (Holds P S) rs r h q;
}

-- ---- rules behind rules

pub adds_then : (P : Program) (a b c : List Rule) (Q W U : Family → Type 0) → ((S : Family) → Q S → W S → U S) → ((S : Family) → U S → Q S) → ((S : Family) → U S → W S) →
    AddsRules P a b Q → AddsRules P b c W → AddsRules P a c U
adds_then P a b c Q W U join left right g h = record {
  earlier = λ S k. g.earlier S (h.earlier S k);
  asked = λ S k. join S (g.asked S (h.earlier S k)) (h.asked S k);
  enough = λ S k u. h.enough S (g.enough S k (left S u)) (right S u);
}

pub adds_as : (P : Program) (a b : List Rule) (Q U : Family → Type 0) → ((S : Family) → Q S → U S) → ((S : Family) → U S → Q S) → AddsRules P a b Q → AddsRules P a b U
adds_as P a b Q U there back g = record {
  earlier = g.earlier;
  asked = λ S k. there S (g.asked S k);
  enough = λ S k u. g.enough S k (back S u);
}

-- ---- by number

abbrev pub Below : (Family → ℕ → Type 0) → ℕ → Family → Type 0
Below W i S = (k : ℕ) → k < i → W S k

pub adds_first : (P : Program) (rs : List Rule) (W : Family → ℕ → Type 0) → AddsRules P rs rs (Below W 0)
adds_first P rs W = adds_none P rs (Below W 0) (λ S k h. absurd (omega arith))

pub adds_next : (P : Program) (a b c : List Rule) (W : Family → ℕ → Type 0) (i : ℕ) → AddsRules P a b (Below W i) → AddsRules P b c (λ S. W S i) → AddsRules P a c (Below W (i + 1))
adds_next P a b c W i g h =
    adds_then P a b c (Below W i) (λ S. W S i) (Below W (i + 1))
    (λ S q w k lt. below_more (W S) i q w k lt)
    (λ S u k lt. u k (omega arith)) (λ S u. u i (omega arith)) g h

pub adds_all : (P : Program) (a b : List Rule) (W : Family → ℕ → Type 0) (i count : ℕ) → count ≤ i → ((S : Family) (n : ℕ) → count ≤ n → W S n) → AddsRules P a b (Below W i) → AddsRules P a b (λ S. (n : ℕ) → W S n)
adds_all P a b W i count le past g =
    adds_as P a b (Below W i) (λ S. (n : ℕ) → W S n)
    (λ S q n. elim (cases_lt n i) [ inl lt ↦ q n lt | inr ge ↦ past S n (omega arith) ]) (λ S u k lt. u k) g

-- a first one, and those behind it by number
pub adds_numbers : (P : Program) (a b c : List Rule) (W : Family → ℕ → Type 0) (i count : ℕ) → count ≤ i → ((S : Family) (n : ℕ) → count ≤ n → W S 0 → W S (suc n)) →
    AddsRules P a b (λ S. W S 0) → AddsRules P b c (Below (λ S n. W S (suc n)) i) → AddsRules P a c (λ S. (n : ℕ) → W S n)
adds_numbers P a b c W i count le past g h =
    adds_then P a b c (λ S. W S 0) (Below (λ S n. W S (suc n)) i) (λ S. (n : ℕ) → W S n)
    (λ S z q n. numbered S z q n)
    (λ S u. u 0) (λ S u k lt. u (suc k)) g h
  where
    numbered : (S : Family) → W S 0 → Below (λ S n. W S (suc n)) i S → (n : ℕ) → W S n
    numbered S z q zero = z
    numbered S z q (suc n) = elim (cases_lt n i) [ inl lt ↦ q n lt | inr ge ↦ past S n (omega arith) z ]

pub are_rules : (P : Program) (rs : List Rule) → AddsRules P [] rs (λ S. IsClosed P S) → AreRules P rs
are_rules P rs h = record { closed = λ S k. h.asked S k; enough = λ S q. h.enough S (λ r (k, lt, e). absurd (omega arith)) q }
