-- What is left of a list of the world.
use Rattle.std.proofs.Common.{◌≡◌, refl, sym, ap, ◌∙◌, ℕ, zero, suc, ◌≤◌, ◌+◌, List, [], ◌∷◌, ◌++◌, length, drop, map, arith, ℤ, pos}
use Rattle.std.specs.Prelude.{slice_index_or}
use Rattle.std.proofs.Math.Seq.{drop-nil}
use Rattle.std.proofs.lemmas.List.{drop_all}
use Rattle.cv_core.specs.Chars.{low_byte}
use Rattle.cv_meaning.specs.State.{fresh_numbers}

pub drop_drop : {X : Type 0} (k n : ℕ) (xs : List X) → drop n (drop k xs) ≡ drop (k + n) xs
drop_drop zero n xs = let e : n ≡ 0 + n = omega arith in ap (λ i. drop i xs) e
drop_drop (suc k) n [] = drop-nil n ∙ sym (drop-nil (suc k + n))
drop_drop (suc k) n (x ∷ xs) = let e : suc (k + n) ≡ suc k + n = omega arith in drop_drop k n xs ∙ ap (λ i. drop i (x ∷ xs)) e

-- all are taken
pub drop_past : {X : Type 0} (xs : List X) (at count n : ℕ) → n ≡ length xs → length xs ≤ at + count → drop n xs ≡ drop count (drop at xs)
drop_past xs at count n e le = drop_all n xs (omega arith) ∙ sym (drop_all (at + count) xs le) ∙ sym (drop_drop at count xs)

pub drop_more : {X : Type 0} (xs : List X) (at count : ℕ) → drop (at + count) xs ≡ drop count (drop at xs)
drop_more xs at count = sym (drop_drop at count xs)

-- one more fresh number
next_suc : (n : ℕ) → suc n + 1 ≡ suc (n + 1)
next_suc n = omega arith

fresh_more : (n : ℕ) (zs : List ℤ) → fresh_numbers (n + 1) zs ≡ fresh_numbers n zs ++ slice_index_or zs n (pos 0) ∷ []
fresh_more zero [] = refl
fresh_more zero (z ∷ zs) = refl
fresh_more (suc n) [] = ap (λ k. fresh_numbers k []) (next_suc n) ∙ ap (λ ys. pos 0 ∷ ys) (fresh_more n [])
fresh_more (suc n) (z ∷ zs) = ap (λ k. fresh_numbers k (z ∷ zs)) (next_suc n) ∙ ap (λ ys. z ∷ ys) (fresh_more n zs)

map_more : (xs : List ℤ) (z : ℤ) → map low_byte (xs ++ z ∷ []) ≡ map low_byte xs ++ low_byte z ∷ []
map_more [] z = refl
map_more (x ∷ xs) z = ap (λ ys. low_byte x ∷ ys) (map_more xs z)

pub bytes_more : (n : ℕ) (zs : List ℤ) → map low_byte (fresh_numbers (n + 1) zs) ≡ map low_byte (fresh_numbers n zs) ++ low_byte (slice_index_or zs n (pos 0)) ∷ []
bytes_more n zs = ap (map low_byte) (fresh_more n zs) ∙ map_more (fresh_numbers n zs) (slice_index_or zs n (pos 0))

-- the first of what is left
pub first_left : {X : Type 0} (xs : List X) (k : ℕ) (d : X) → slice_index_or (drop k xs) 0 d ≡ slice_index_or xs k d
first_left [] zero d = refl
first_left [] (suc k) d = refl
first_left (x ∷ xs) zero d = refl
first_left (x ∷ xs) (suc k) d = first_left xs k d
