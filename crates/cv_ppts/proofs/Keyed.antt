-- The walk over keys that finds each number once.
use Rattle.std.proofs.Common.{refl, ℕ, zero, suc, ◌≡◌, ◌<◌, ◌≤◌, ◌+◌, Bool, true, false, List, [], ◌∷◌, ◌++◌, length, Option, Some, None, ap, sym, ◌∙◌, arith, if◌then◌else◌, map, drop, slice_get, slice_index_or, subst, add-one, inl, inr, ◌||◌, ◌==◌}
use Rattle.std.proofs.lemmas.Bool.{cases_lt, eq-eqb, eqb-true}
use Rattle.std.proofs.lemmas.List.{append-nil}
use Rattle.std.proofs.lemmas.List.Folds.{list_any-append}
use Rattle.cv_ppts.specs.Entities.{as_list, distinct_behind, is_member}
use Rattle.cv_ppts.specs.Keys.{later_numbers, new_in, new_number, numbers, seen_numbers}

-- a list of elements mapped, at a place
pub index_map : {A : Type 0} (g : A → Option ℕ) (xs : List A) (n : ℕ) (x : A) → slice_get xs n ≡ Some x → slice_index_or (map g xs) n None ≡ g x
index_map g [] n x e = absurd (cc)
index_map g (y ∷ ys) zero x e = let f : y ≡ x = cc in ap g f
index_map g (y ∷ ys) (suc n) x e = index_map g ys n x e

pub index_map_past : {A : Type 0} (g : A → Option ℕ) (xs : List A) (n : ℕ) → slice_get xs n ≡ None → slice_index_or (map g xs) n None ≡ None
index_map_past g [] n e = refl
index_map_past g (y ∷ ys) zero e = absurd (cc)
index_map_past g (y ∷ ys) (suc n) e = index_map_past g ys n e

-- one more key
pub seen_more : (ks : List (Option ℕ)) (i : ℕ) → i < length ks → seen_numbers ks (suc i) ≡ seen_numbers ks i ++ as_list (slice_index_or ks i None)
seen_more [] i h = absurd (omega arith)
seen_more (None ∷ ks) zero h = refl
seen_more (Some n ∷ ks) zero h = refl
seen_more (None ∷ ks) (suc i) h = seen_more ks i (omega arith)
seen_more (Some n ∷ ks) (suc i) h = ap (λ ns. n ∷ ns) (seen_more ks i (omega arith))

pub later_drop : (ks : List (Option ℕ)) (i : ℕ) → i < length ks → numbers (drop i ks) ≡ as_list (slice_index_or ks i None) ++ numbers (drop (suc i) ks)
later_drop [] i h = absurd (omega arith)
later_drop (k ∷ ks) zero h = refl
later_drop (k ∷ ks) (suc i) h = later_drop ks i (omega arith)

or_false : (b : Bool) → (b || false) ≡ b
or_false true = refl
or_false false = refl

-- ---- one more number that was seen before changes nothing

member_more : (m : ℕ) (ns : List ℕ) (n : ℕ) → is_member m (ns ++ n ∷ []) ≡ (is_member m ns || (n == m || false))
member_more m ns n = list_any-append (λ k. k == m) ns (n ∷ [])

-- where n is a member of ns
member_again : (m n : ℕ) (ns : List ℕ) → is_member n ns ≡ true → is_member m (ns ++ n ∷ []) ≡ is_member m ns
member_again m n ns h = member_more m ns n ∙ by_test (n == m) refl
  where
    by_test : (b : Bool) → b ≡ (n == m) → (is_member m ns || (b || false)) ≡ is_member m ns
    by_test false e = or_false (is_member m ns)
    by_test true e =
        let same : n ≡ m = eqb-true n m (sym e) in
        let there : is_member m ns ≡ true = subst (λ k. is_member k ns ≡ true) same h in
        ap (λ b. b || true) there ∙ sym there

behind_if : (a b : Bool) (xs ys zs : List ℕ) (n : ℕ) → a ≡ b → xs ≡ ys → zs ≡ zs → (if a then xs else n ∷ zs) ≡ (if b then ys else n ∷ zs)
behind_if a b xs ys zs n e f g = ap (λ c. if c then xs else n ∷ zs) e ∙ ap (λ v. if b then v else n ∷ zs) f

-- what stands behind depends on the members alone
pub behind_same : (a b ns : List ℕ) → ((m : ℕ) → is_member m a ≡ is_member m b) → distinct_behind a ns ≡ distinct_behind b ns
behind_same a b [] h = refl
behind_same a b (n ∷ ns) h =
    ap (λ c. if c then distinct_behind a ns else n ∷ distinct_behind (a ++ n ∷ []) ns) (h n)
    ∙ ap (λ v. if is_member n b then v else n ∷ distinct_behind (a ++ n ∷ []) ns) (behind_same a b ns h)
    ∙ ap (λ v. if is_member n b then distinct_behind b ns else n ∷ v)
    (behind_same (a ++ n ∷ []) (b ++ n ∷ []) ns (λ m. member_more m a n ∙ ap (λ c. c || (n == m || false)) (h m) ∙ sym (member_more m b n)))

-- ---- one step of the walk

behind_step : (seen : List ℕ) (k : Option ℕ) (rest : List ℕ) → distinct_behind seen (as_list k ++ rest) ≡ as_list (new_in seen k) ++ distinct_behind (seen ++ as_list k) rest
behind_step seen None rest = ap (λ v. distinct_behind v rest) (sym (append-nil seen))
behind_step seen (Some n) rest = by_test (is_member n seen) refl
  where
    by_test : (b : Bool) → b ≡ is_member n seen →
        (if b then distinct_behind seen rest else n ∷ distinct_behind (seen ++ n ∷ []) rest) ≡ as_list (if b then None else Some n) ++ distinct_behind (seen ++ n ∷ []) rest
    by_test false e = refl
    by_test true e = sym (behind_same (seen ++ n ∷ []) seen rest (λ m. member_again m n seen (sym e)))

pub later_step : (ks : List (Option ℕ)) (i : ℕ) → i < length ks → later_numbers ks i ≡ as_list (new_number ks i) ++ later_numbers ks (suc i)
later_step ks i h =
    ap (λ v. distinct_behind (seen_numbers ks i) v) (later_drop ks i h)
    ∙ behind_step (seen_numbers ks i) (slice_index_or ks i None) (numbers (drop (suc i) ks))
    ∙ ap (λ v. as_list (new_number ks i) ++ distinct_behind v (numbers (drop (suc i) ks))) (sym (seen_more ks i h))

drop_past : {X : Type 0} (xs : List X) (i : ℕ) → length xs ≤ i → drop i xs ≡ []
drop_past [] zero h = refl
drop_past [] (suc i) h = refl
drop_past (x ∷ xs) zero h = absurd (omega arith)
drop_past (x ∷ xs) (suc i) h = drop_past xs i (omega arith)

pub later_end : (ks : List (Option ℕ)) (i : ℕ) → length ks ≤ i → later_numbers ks i ≡ []
later_end ks i h = ap (λ v. distinct_behind (seen_numbers ks i) (numbers v)) (drop_past ks i h)

step_past : (ks : List (Option ℕ)) (i : ℕ) → length ks ≤ i → slice_index_or ks i None ≡ None
step_past [] i h = refl
step_past (k ∷ ks) zero h = absurd (omega arith)
step_past (k ∷ ks) (suc i) h = step_past ks i (omega arith)

pub later_more : (ks : List (Option ℕ)) (i : ℕ) → later_numbers ks i ≡ as_list (new_number ks i) ++ later_numbers ks (i + 1)
later_more ks i =
    elim (cases_lt i (length ks)) [
      | inl lt ↦ later_step ks i lt ∙ ap (λ j. as_list (new_number ks i) ++ later_numbers ks j) (sym (add-one i))
      | inr ge ↦
          later_end ks i ge ∙ sym (later_end ks (i + 1) (omega arith))
          ∙ ap (λ o. as_list (new_in (seen_numbers ks i) o) ++ later_numbers ks (i + 1)) (sym (step_past ks i ge))
    ]

pub later_old : (ks : List (Option ℕ)) (i : ℕ) → new_number ks i ≡ None → later_numbers ks i ≡ later_numbers ks (i + 1)
later_old ks i e = later_more ks i ∙ ap (λ o. as_list o ++ later_numbers ks (i + 1)) e

pub later_new : (ks : List (Option ℕ)) (i n : ℕ) → new_number ks i ≡ Some n → later_numbers ks i ≡ n ∷ later_numbers ks (i + 1)
later_new ks i n e = later_more ks i ∙ ap (λ o. as_list o ++ later_numbers ks (i + 1)) e

-- ---- seen before a place

seen_past : (ks : List (Option ℕ)) (i j m : ℕ) → i < j → i < length ks → Some m ≡ slice_index_or ks i None → is_member m (seen_numbers ks j) ≡ true
seen_past [] i j m lt h e = absurd (omega arith)
seen_past (k ∷ ks) i zero m lt h e = absurd (omega arith)
seen_past (None ∷ ks) zero (suc j) m lt h e = absurd (cc)
seen_past (Some n ∷ ks) zero (suc j) m lt h e = let f : m ≡ n = cc in ap (λ b. b || is_member m (seen_numbers ks j)) (eq-eqb n m (sym f))
seen_past (None ∷ ks) (suc i) (suc j) m lt h e = seen_past ks i j m (omega arith) (omega arith) e
seen_past (Some n ∷ ks) (suc i) (suc j) m lt h e = ap (λ b. n == m || b) (seen_past ks i j m (omega arith) (omega arith) e) ∙ or_true (n == m)
  where
    or_true : (b : Bool) → (b || true) ≡ true
    or_true true = refl
    or_true false = refl

pub is_seen_there : (ks : List (Option ℕ)) (i j m : ℕ) → i < j → j ≤ length ks → slice_index_or ks i None ≡ Some m → true ≡ is_member m (seen_numbers ks j)
is_seen_there ks i j m lt h e = sym (seen_past ks i j m lt (omega arith) (sym e))

pub not_seen_yet : (ks : List (Option ℕ)) (i m : ℕ) → i < length ks → is_member m (seen_numbers ks i) ≡ false → (slice_index_or ks i None ≡ Some m → ⊥) → is_member m (seen_numbers ks (i + 1)) ≡ false
not_seen_yet ks i m h before here =
    ap (λ j. is_member m (seen_numbers ks j)) (add-one i) ∙ ap (is_member m) (seen_more ks i h) ∙ by_key (slice_index_or ks i None) here
  where
    by_key : (k : Option ℕ) → (k ≡ Some m → ⊥) → is_member m (seen_numbers ks i ++ as_list k) ≡ false
    by_key None g = ap (is_member m) (append-nil (seen_numbers ks i)) ∙ before
    by_key (Some n) g = member_more m (seen_numbers ks i) n ∙ ap (λ b. b || (n == m || false)) before ∙ by_test (n == m) refl
      where
        by_test : (b : Bool) → b ≡ (n == m) → (b || false) ≡ false
        by_test false e = refl
        by_test true e = absurd (g (ap (λ k. Some k) (eqb-true n m (sym e))))
