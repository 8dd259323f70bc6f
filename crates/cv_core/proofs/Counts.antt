-- Counting the items of a list, one more in front at a time.
use Rattle.std.proofs.Common.{◌≡◌, sym, ap, ◌∙◌, ℕ, ◌+◌, Bool, true, false, cond, List, ◌∷◌, arith}
use Rattle.std.specs.List.{count_by}
use Rattle.std.proofs.lemmas.List.Sums.{sum_by_from}

count_cons : {X : Type 0} (p : X → Bool) (x : X) (xs : List X) → count_by p (x ∷ xs) ≡ cond (p x) 1 0 + count_by p xs
count_cons p x xs = let e = sum_by_from (λ y. cond (p y) 1 0) (0 + cond (p x) 1 0) xs in omega arith

pub count_yes : {X : Type 0} (p : X → Bool) (x : X) (xs : List X) (n : ℕ) → p x ≡ true → n ≡ count_by p xs → n + 1 ≡ count_by p (x ∷ xs)
count_yes p x xs n holds e = let h : 1 + count_by p xs ≡ count_by p (x ∷ xs) = sym (count_cons p x xs ∙ ap (λ b. cond b 1 0 + count_by p xs) holds) in omega arith

pub count_no : {X : Type 0} (p : X → Bool) (x : X) (xs : List X) (n : ℕ) → p x ≡ false → n ≡ count_by p xs → n ≡ count_by p (x ∷ xs)
count_no p x xs n fails e = let h : 0 + count_by p xs ≡ count_by p (x ∷ xs) = sym (count_cons p x xs ∙ ap (λ b. cond b 1 0 + count_by p xs) fails) in omega arith
