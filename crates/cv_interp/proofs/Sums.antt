-- Small steps of walks over lists.
use Rattle.std.proofs.Common.{◌≡◌, refl, sym, ap, ◌∙◌, ℕ, zero, suc, ◌+◌, ◌-◌, ◌<◌, ◌≤◌, inl, inr, Bool, true, false, cond, ◌&&◌, List, [], ◌∷◌, ◌++◌, append_assoc, length, map, take, sum, Option, Some, None, arith}
use Rattle.std.specs.Prelude.{nat_le, nat_lt, slice_get}
use Rattle.std.specs.List.{cons_option, count_by, filter_map, fold}
use Rattle.std.proofs.lemmas.List.Sums.{sum_by_from}
use Rattle.std.proofs.lemmas.Bool.{cases_lt, le-leb, le-ltb, lt-ltb}
use Rattle.std.proofs.lemmas.Bool.Decides.{nat_tests}
use Rattle.cv_meaning.specs.Memory.{Memory, kill, kill_from, live_ended}

-- ---- sums over the first items

plus_fold : (a : ℕ) (ys : List ℕ) → fold (λ s x. s + x) a ys ≡ a + fold (λ s x. s + x) 0 ys
plus_fold a [] = omega arith
plus_fold a (y ∷ ys) = let e = plus_fold (a + y) ys in let h = plus_fold (0 + y) ys in omega arith

pub sum_cons : (y : ℕ) (ys : List ℕ) → sum (y ∷ ys) ≡ y + sum ys
sum_cons y ys = let e = plus_fold (0 + y) ys in omega arith

pub sum_none : {X : Type 0} (f : X → ℕ) (xs : List X) (n : ℕ) → n ≡ 0 → sum (map f (take n xs)) ≡ 0
sum_none f [] n e = rw e refl
sum_none f (x ∷ xs) n e = rw e refl

pub sum_step : {X : Type 0} (f : X → ℕ) (x : X) (xs : List X) (n : ℕ) → (n ≡ 0 → ⊥) → sum (map f (take n (x ∷ xs))) ≡ f x + sum (map f (take (n - 1) xs))
sum_step f x xs zero h = absurd (h refl)
sum_step f x xs (suc n) h = let e : n ≡ suc n - 1 = omega arith in sum_cons (f x) (map f (take n xs)) ∙ ap (λ k. f x + sum (map f (take k xs))) e

-- ---- the objects of items

pub more_objects : {X : Type 0} (h : X → Option ℕ) (os ps : List ℕ) (x : X) (xs : List X) (o : ℕ) → Some o ≡ h x → ps ≡ os ++ o ∷ [] →
    ps ++ filter_map h xs ≡ os ++ filter_map h (x ∷ xs)
more_objects h os ps x xs o e p =
    ap (λ qs. qs ++ filter_map h xs) p ∙ append_assoc os (o ∷ []) (filter_map h xs) ∙ ap (λ (q : Option ℕ). os ++ cons_option q (filter_map h xs)) e

pub no_more_objects : {X : Type 0} (h : X → Option ℕ) (os : List ℕ) (x : X) (xs : List X) → None ≡ h x → os ++ filter_map h xs ≡ os ++ filter_map h (x ∷ xs)
no_more_objects h os x xs e = ap (λ (q : Option ℕ). os ++ cons_option q (filter_map h xs)) e

-- ---- the ends of lives

pub kill_none : (first count : ℕ) (m : Memory) → count ≡ 0 → m ≡ kill_from first count m
kill_none first count m e = rw e refl

pub kill_first : (first count : ℕ) (m n : Memory) → (count ≡ 0 → ⊥) → n ≡ kill_from (first + 1) (count - 1) (kill first m) → n ≡ kill_from first count m
kill_first first zero m n h e = absurd (h refl)
kill_first first (suc count) m n h e =
    let a : first + 1 ≡ suc first = omega arith in
    let b : suc count - 1 ≡ count = omega arith in
    e ∙ ap (λ i. kill_from i (suc count - 1) (kill first m)) a ∙ ap (λ j. kill_from (suc first) j (kill first m)) b

past_end : (m : Memory) (o : ℕ) → length m ≤ o → slice_get m o ≡ None
past_end [] zero h = refl
past_end [] (suc o) h = refl
past_end (x ∷ m) zero h = absurd (omega arith)
past_end (x ∷ m) (suc o) h = let k : length m ≤ o = omega arith in past_end m o k

pub kill_past : (first count : ℕ) (m : Memory) → length m ≤ first → m ≡ kill_from first count m
kill_past first zero m h = refl
kill_past first (suc count) m h =
    let k : length m ≤ suc first = omega arith in
    kill_past (suc first) count m k
    ∙ ap (λ (n : Memory). kill_from (suc first) count n) (sym (ap (live_ended m first) (past_end m first h)))

-- ---- own objects

pub own_test : (first count o : ℕ) (b : Bool) → (first ≤ o → nat_lt (o - first) count ≡ b) → (o < first → b ≡ false) → b ≡ (nat_le first o && nat_lt o (first + count))
own_test first count o b inside outside = elim (cases_lt o first) [
  | inl h ↦ (outside h ∙ sym (ap (λ t. t && nat_lt o (first + count)) (not_le first o h)))
  | inr h ↦ sym (inside h) ∙ shifted h ∙ sym (ap (λ t. t && nat_lt o (first + count)) (le-leb first o h))
]
  where
    not_le : (a b : ℕ) → b < a → nat_le a b ≡ false
    not_le a b h = grind (arith, nat_tests)

    shifted : first ≤ o → nat_lt (o - first) count ≡ nat_lt o (first + count)
    shifted h = elim (cases_lt (o - first) count) [
      | inl k ↦ (let l : o < first + count = omega arith in lt-ltb (o - first) count k ∙ sym (lt-ltb o (first + count) l))
      | inr k ↦ (let l : first + count ≤ o = omega arith in le-ltb (o - first) count k ∙ sym (le-ltb o (first + count) l))
    ]
