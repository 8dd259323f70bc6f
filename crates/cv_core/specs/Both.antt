-- Two tests at once, and tests of each element of a list.
use Rattle.std.specs.Prelude.{ℕ, zero, suc, ◌≡◌, Bool, true, false, ◌&&◌, List, [], ◌∷◌, slice_get, Some, refl}
use Rattle.std.specs.List.{All, list_all}
use Rattle.std.proofs.Common.{arith}

pub first_true : (a b : Bool) → (a && b) ≡ true → a ≡ true
first_true true b h = refl
first_true false b h = cc

pub second_true : (a b : Bool) → (a && b) ≡ true → b ≡ true
second_true true b h = h
second_true false b h = cc

pub both_true : (a b : Bool) → (a && b) ≡ true → (a ≡ true) × (b ≡ true)
both_true true b h = (refl, h)
both_true false b h = absurd cc

pub true_both : (a b : Bool) → a ≡ true → b ≡ true → (a && b) ≡ true
true_both true b h k = k
true_both false b h k = cc

-- A weaker test holds of each element too.
pub each_too : {A : Type 0} (p q : A → Bool) → ((a : A) → p a ≡ true → q a ≡ true) → (xs : List A) → list_all p xs ≡ true → list_all q xs ≡ true
each_too p q h [] e = refl
each_too p q h (x ∷ xs) e = true_both (q x) (list_all q xs) (h x (first_true (p x) (list_all p xs) e)) (each_too p q h xs (second_true (p x) (list_all p xs) e))

-- What holds at each place holds of each element.
pub each_placed : {A : Type 0} (p : A → Bool) (xs : List A) → ((i : ℕ) (x : A) → slice_get xs i ≡ Some x → p x ≡ true) → list_all p xs ≡ true
each_placed p [] h = refl
each_placed p (x ∷ xs) h = true_both (p x) (list_all p xs) (h 0 x refl) (each_placed p xs (λ i y e. h (suc i) y e))

pub all_placed : {A : Type 0} (Q : A → Type 0) (xs : List A) → ((i : ℕ) (x : A) → slice_get xs i ≡ Some x → Q x) → All Q xs
all_placed Q [] h i d lt = absurd (omega (arith, lt))
all_placed Q (x ∷ xs) h zero d lt = h 0 x refl
all_placed Q (x ∷ xs) h (suc i) d lt = all_placed Q xs (λ k y e. h (suc k) y e) i d (omega (arith, lt))
