-- The walk from both ends of an index.
use Rattle.std.proofs.Common.{◌≡◌, ◌≢◌, ℕ, zero, suc, eqb-true, ◌<◌, ◌≤◌, ◌+◌, ◌-◌, ◌^◌, ℤ, pos, ◌+ℤ◌, ◌*ℤ◌, ◌<ℤ◌, ◌≤ℤ◌, List, [], ◌∷◌, ◌⊎◌, inl, inr, Bool, true, false, refl, sym, subst, ◌∙◌, ap, arith, length, slice_index_or}
use Rattle.std.specs.Prelude.{int_le, ◌==◌}
use Rattle.std.specs.Bool.{one_answer}
use Rattle.std.specs.Cmp.{IsStrictWeakOrder}
use Rattle.std.specs.List.{AllByRecursion, Contains, IsDistinct}
use Rattle.std.specs.List.Sorted.{IsPermutation, IsSortedBy}
use Rattle.std.specs.declared.cmp.Ordering.{Ordering}
use Rattle.std.specs.declared.cmp.Ordering.TheVariants.{Less, Equal, Greater}
use Rattle.std.proofs.lemmas.Bool.Decides.{Decides-eqb, Decides-like}
use Rattle.std.proofs.lemmas.List.Sorted.{All-permutation, Contains-permutation, sorted_far}
use Rattle.std.proofs.lemmas.Map.Keys.{IsDistinct-IsPermutation}
use Rattle.std.proofs.lemmas.Int.{ints}
use Rattle.std.proofs.lemmas.Bool.{both_ways, cases_lt, eqb-false, false_from_ne_true}
use Rattle.cv_num.specs.declared.rows.Row.{Row}
use Rattle.cv_num.specs.Pairs.{coefficient_of}
use Rattle.cv_farkas.specs.Order.{IsCompared, row_lt}
use Rattle.cv_farkas.specs.Search.{IsIndex, IsNumbered, IsReached, IsSortedIndex, NoneReaches, Reaches}
use Rattle.cv_farkas.specs.declared.search.Entry.{Entry}
use Rattle.cv_farkas.proofs.OrderLemmas.{shift_within, pairs_before, constant_before, row_order}
use Rattle.cv_num.specs.Algebra.{zero_row}
use Rattle.cv_farkas.proofs.PartLemmas.{other_default}

-- where a + b stands before the sum, no row up to b goes with a
pub less_ends : (a b b' : Row) (t : List (ℕ × ℤ)) (c : ℤ) → IsReached Less a b t c → row_lt b b' ≡ false → Reaches a b' t c → ⊥
less_ends a b b' t c h n r =
    both_ways (row_lt b b') n
    (pairs_before b b' (shift_within (λ u. coefficient_of a.pairs u +ℤ pos 1 *ℤ coefficient_of b.pairs u) (coefficient_of t) (coefficient_of b.pairs) (coefficient_of b'.pairs) (2 ^ 32)
    (λ u. let k : coefficient_of a.pairs u +ℤ coefficient_of b'.pairs u ≡ coefficient_of t u = r.pairs u in omega (arith, ints)) h))

-- where it stands behind, or has a greater constant, no row from a on goes with b
pub greater_ends : (a a' b : Row) (t : List (ℕ × ℤ)) (c : ℤ) → IsReached Greater a b t c → row_lt a' a ≡ false → Reaches a' b t c → ⊥
greater_ends a a' b t c (inl h) n r =
    both_ways (row_lt a' a) n
    (pairs_before a' a (shift_within (coefficient_of t) (λ u. coefficient_of a.pairs u +ℤ pos 1 *ℤ coefficient_of b.pairs u) (coefficient_of a'.pairs) (coefficient_of a.pairs) (2 ^ 32)
    (λ u. let k : coefficient_of a'.pairs u +ℤ coefficient_of b.pairs u ≡ coefficient_of t u = r.pairs u in omega (arith, ints)) h))
greater_ends a a' b t c (inr h) n r =
    let l : c <ℤ (a.constant +ℤ b.constant) = h.1 in
    let m : (a'.constant +ℤ b.constant) ≤ℤ c = r.constant in
    both_ways (row_lt a' a) n
    (constant_before a' a
    (λ u. let k : coefficient_of a'.pairs u +ℤ coefficient_of b.pairs u ≡ coefficient_of t u = r.pairs u in let e : coefficient_of a.pairs u +ℤ pos 1 *ℤ coefficient_of b.pairs u ≡ coefficient_of t u = h.0 u in omega (arith, ints))
    (omega (arith, ints)))

-- no two entries have the sum of which one is below low or from high on
pub record IsWalked (es : List Entry) (t : List (ℕ × ℤ)) (c : ℤ) (low high : ℕ) : Type 0 where
  pub ordered : low ≤ high
  pub inside : high ≤ length es
  pub none : (i j : ℕ) (d : Entry) → i < j → j < length es → (i < low) ⊎ (high ≤ j) → ¬ (Reaches (slice_index_or es i d).row.now (slice_index_or es j d).row.now t c)

pub walk_start : (es : List Entry) (t : List (ℕ × ℤ)) (c : ℤ) → IsWalked es t c 0 (length es)
walk_start es t c = record { ordered = omega arith; inside = omega arith; none = λ i j d l m h r. at i j m h }
  where
    at : (i j : ℕ) → j < length es → (i < 0) ⊎ (length es ≤ j) → ⊥
    at i j m (inl h) = omega arith
    at i j m (inr h) = omega arith

pub walk_up : (es : List Entry) (t : List (ℕ × ℤ)) (c : ℤ) (low high : ℕ) → IsWalked es t c low high → low + 1 < high → IsSortedIndex es
    → ((d : Entry) → IsReached Less (slice_index_or es low d).row.now (slice_index_or es (high - 1) d).row.now t c) → IsWalked es t c (low + 1) high
walk_up es t c low high w lt s h = record { ordered = omega arith; inside = w.inside; none = λ i j d l m o r. at i j d l m o r }
  where
    within : high ≤ length es
    within = w.inside

    lower : (i j : ℕ) (d : Entry) → i < j → j < length es → i < low + 1 → Reaches (slice_index_or es i d).row.now (slice_index_or es j d).row.now t c → (i < low) ⊎ (low ≤ i) → (j < high) ⊎ (high ≤ j) → ⊥
    lower i j d l m k r (inl p) q = w.none i j d l m (inl p) r
    lower i j d l m k r (inr p) (inr q) = w.none i j d l m (inr q) r
    lower i j d l m k r (inr p) (inl q) =
        let e : i ≡ low = omega arith in
        let P : ℕ → Type 0 = λ n. Reaches (slice_index_or es n d).row.now (slice_index_or es j d).row.now t c in
        less_ends (slice_index_or es low d).row.now (slice_index_or es (high - 1) d).row.now (slice_index_or es j d).row.now t c (h d) (s j (high - 1) d (omega arith) (omega arith)) (subst P e r)

    at : (i j : ℕ) (d : Entry) → i < j → j < length es → (i < low + 1) ⊎ (high ≤ j) → Reaches (slice_index_or es i d).row.now (slice_index_or es j d).row.now t c → ⊥
    at i j d l m (inl k) r = lower i j d l m k r (cases_lt i low) (cases_lt j high)
    at i j d l m (inr k) r = w.none i j d l m (inr k) r

pub walk_down : (es : List Entry) (t : List (ℕ × ℤ)) (c : ℤ) (low high : ℕ) → IsWalked es t c low high → low + 1 < high → IsSortedIndex es
    → ((d : Entry) → IsReached Greater (slice_index_or es low d).row.now (slice_index_or es (high - 1) d).row.now t c) → IsWalked es t c low (high - 1)
walk_down es t c low high w lt s h = record { ordered = omega arith; inside = (let k : high ≤ length es = w.inside in omega arith); none = λ i j d l m o r. at i j d l m o r }
  where
    within : high ≤ length es
    within = w.inside

    upper : (i j : ℕ) (d : Entry) → i < j → j < length es → high - 1 ≤ j → Reaches (slice_index_or es i d).row.now (slice_index_or es j d).row.now t c → (i < low) ⊎ (low ≤ i) → (j < high) ⊎ (high ≤ j) → ⊥
    upper i j d l m k r (inl p) q = w.none i j d l m (inl p) r
    upper i j d l m k r (inr p) (inr q) = w.none i j d l m (inr q) r
    upper i j d l m k r (inr p) (inl q) =
        let e : j ≡ high - 1 = omega arith in
        let P : ℕ → Type 0 = λ n. Reaches (slice_index_or es i d).row.now (slice_index_or es n d).row.now t c in
        greater_ends (slice_index_or es low d).row.now (slice_index_or es i d).row.now (slice_index_or es (high - 1) d).row.now t c (h d) (s low i d p (omega arith)) (subst P e r)

    at : (i j : ℕ) (d : Entry) → i < j → j < length es → (i < low) ⊎ (high - 1 ≤ j) → Reaches (slice_index_or es i d).row.now (slice_index_or es j d).row.now t c → ⊥
    at i j d l m (inl k) r = w.none i j d l m (inl k) r
    at i j d l m (inr k) r = upper i j d l m k r (cases_lt i low) (cases_lt j high)

pub walk_end : (es : List Entry) (t : List (ℕ × ℤ)) (c : ℤ) (low high : ℕ) → IsWalked es t c low high → high ≤ low + 1 → NoneReaches es t c
walk_end es t c low high w le i j d l m = at (cases_lt i low) (cases_lt j high)
  where
    at : (i < low) ⊎ (low ≤ i) → (j < high) ⊎ (high ≤ j) → ¬ (Reaches (slice_index_or es i d).row.now (slice_index_or es j d).row.now t c)
    at (inl p) q = w.none i j d l m (inl p)
    at (inr p) (inr q) = w.none i j d l m (inr q)
    at (inr p) (inl q) = absurd (omega arith)

-- ---- what the code's comparison of a sum says
pub reached_unequal : (a b : Row) (xs ys t : List (ℕ × ℤ)) (c : ℤ) (r : Ordering) → xs ≡ a.pairs → ys ≡ b.pairs → r ≢ Equal → IsCompared r (λ u. coefficient_of xs u +ℤ pos 1 *ℤ coefficient_of ys u) (coefficient_of t) → IsReached r a b t c
reached_unequal a b xs ys t c Less ex ey n h =
    let P : List (ℕ × ℤ) → Type 0 = λ zs. IsCompared Less (λ u. coefficient_of zs u +ℤ pos 1 *ℤ coefficient_of ys u) (coefficient_of t) in
    let Q : List (ℕ × ℤ) → Type 0 = λ zs. IsCompared Less (λ u. coefficient_of a.pairs u +ℤ pos 1 *ℤ coefficient_of zs u) (coefficient_of t) in
    subst Q ey (subst P ex h)
reached_unequal a b xs ys t c Equal ex ey n h = absurd (n refl)
reached_unequal a b xs ys t c Greater ex ey n h =
    let P : List (ℕ × ℤ) → Type 0 = λ zs. IsCompared Greater (λ u. coefficient_of zs u +ℤ pos 1 *ℤ coefficient_of ys u) (coefficient_of t) in
    let Q : List (ℕ × ℤ) → Type 0 = λ zs. IsCompared Greater (λ u. coefficient_of a.pairs u +ℤ pos 1 *ℤ coefficient_of zs u) (coefficient_of t) in
    inl (subst Q ey (subst P ex h))

pub reached_pairs : (a b : Row) (xs ys t : List (ℕ × ℤ)) → xs ≡ a.pairs → ys ≡ b.pairs → ((u : ℕ) → coefficient_of xs u +ℤ pos 1 *ℤ coefficient_of ys u ≡ coefficient_of t u) → (u : ℕ) → coefficient_of a.pairs u +ℤ pos 1 *ℤ coefficient_of b.pairs u ≡ coefficient_of t u
reached_pairs a b xs ys t ex ey h u =
    let P : List (ℕ × ℤ) → Type 0 = λ zs. coefficient_of zs u +ℤ pos 1 *ℤ coefficient_of ys u ≡ coefficient_of t u in
    let Q : List (ℕ × ℤ) → Type 0 = λ zs. coefficient_of a.pairs u +ℤ pos 1 *ℤ coefficient_of zs u ≡ coefficient_of t u in
    subst Q ey (subst P ex (h u))

pub one_times : (x y z : ℤ) → x +ℤ pos 1 *ℤ y ≡ z → x +ℤ y ≡ z
one_times x y z e = omega (arith, ints)

pub constants_within : (x y p q z : ℤ) → int_le (x +ℤ y) z ≡ true → x ≡ p → y ≡ q → (p +ℤ q) ≤ℤ z
constants_within x y p q z e ex ey = let l : (x +ℤ y) ≤ℤ z = grind (arith, ints) in omega (arith, ints)

-- ---- the index
abbrev pub entry_lt : Entry → Entry → Bool
entry_lt x y = row_lt x.row.now y.row.now

pub entry_order : IsStrictWeakOrder entry_lt
entry_order = record {
  one_way = λ x y. row_order.one_way x.row.now y.row.now;
  chain = λ x y z. row_order.chain x.row.now y.row.now z.row.now;
}

abbrev same_number : Entry → Entry → Bool
same_number x y = x.number == y.number

same_number_flips : (x y : Entry) → same_number x y ≡ same_number y x
same_number_flips x y = one_answer (same_number x y) (same_number y x) (Decides-eqb x.number y.number) (Decides-like (same_number y x) sym sym (Decides-eqb y.number x.number))

other_numbers : (x : Entry) (es : List Entry) → ((k : ℕ) (d : Entry) → k < length es → x.number ≢ (slice_index_or es k d).number) → AllByRecursion (λ y. same_number x y ≡ false) es
other_numbers x [] h = tt
other_numbers x (e ∷ es) h =
    (false_from_ne_true (same_number x e) (λ k. h 0 e (omega arith) (eqb-true x.number e.number k)), other_numbers x es (λ k d l. h (suc k) d (omega arith)))

numbers_distinct : (n : ℕ) (es : List Entry) → ((k : ℕ) (d : Entry) → k < length es → (slice_index_or es k d).number ≡ n + k) → IsDistinct same_number es
unfolding IsDistinct
numbers_distinct n [] h = tt
numbers_distinct n (e ∷ es) h = (
  other_numbers e es (λ k d l same. let p : e.number ≡ n + 0 = h 0 d (omega arith) in let q : (slice_index_or es k d).number ≡ n + suc k = h (suc k) d (omega arith) in absurd (omega arith)),
  numbers_distinct (n + 1) es (λ k d l. let q : (slice_index_or es k d).number ≡ n + suc k = h (suc k) d (omega arith) in omega arith),
)

not_among : (x : Entry) (es : List Entry) (k : ℕ) (d : Entry) → AllByRecursion (λ y. same_number x y ≡ false) es → k < length es → x.number ≢ (slice_index_or es k d).number
not_among x [] k d h l = absurd (omega arith)
not_among x (e ∷ es) zero d h l = eqb-false x.number e.number h.0
not_among x (e ∷ es) (suc k) d h l = not_among x es k d h.1 (omega arith)

apart : (es : List Entry) (i j : ℕ) (d : Entry) → IsDistinct same_number es → i < j → j < length es → (slice_index_or es i d).number ≢ (slice_index_or es j d).number
unfolding IsDistinct
apart [] i j d h l m = absurd (omega arith)
apart (e ∷ es) i zero d h l m = absurd (omega arith)
apart (e ∷ es) zero (suc j) d h l m = not_among e es j d h.0 (omega arith)
apart (e ∷ es) (suc i) (suc j) d h l m = apart es i j d h.1 (omega arith) (omega arith)

found_at : (n : ℕ) (es fs : List Entry) (x : Entry) → x.number ≡ n → Contains fs x → (k : ℕ) × (k < length fs) × ((d : Entry) → (slice_index_or fs k d).number ≡ n)
found_at n es fs x e h = (h.0, h.1, λ d. ap (λ (y : Entry). y.number) (other_default fs h.0 d x h.1 ∙ h.2) ∙ e)

number_found : (rows : List Row) (es fs : List Entry) → IsNumbered rows es → IsPermutation es fs → (n : ℕ) → n < length rows → (k : ℕ) × (k < length fs) × ((d : Entry) → (slice_index_or fs k d).number ≡ n)
number_found rows [] fs h p n l = absurd (let e : 0 ≡ length rows = h.0 in omega arith)
number_found rows (e ∷ es) fs h p n l =
    let all : List Entry = e ∷ es in
    let x : Entry = slice_index_or all n e in
    let inside : n < length all = (let k : length all ≡ length rows = h.0 in omega arith) in
    found_at n all fs x ((h.1 n e inside).0) (Contains-permutation all fs x p (n, inside, other_default all n x e inside))

pub index_from : (rows : List Row) (es fs : List Entry) → IsNumbered rows es → IsPermutation es fs → IsSortedBy entry_lt fs → IsIndex rows fs
index_from rows es fs h p up = record {
  rows_in = All-permutation (λ e. (e.number < length rows) × (e.row.now ≡ slice_index_or rows e.number zero_row)) es fs p (λ k d l. own k d l);
  distinct = λ i j d l m. apart fs i j d (IsDistinct-IsPermutation same_number same_number_flips es fs p (numbers_distinct 0 es (λ k d l. let e : (slice_index_or es k d).number ≡ k = (h.1 k d l).0 in omega arith))) l m;
  complete = number_found rows es fs h p;
  sorted = λ i j d l m. sorted_far entry_lt entry_order fs up i j d l m;
}
  where
    own : (k : ℕ) (d : Entry) → k < length es → ((slice_index_or es k d).number < length rows) × ((slice_index_or es k d).row.now ≡ slice_index_or rows (slice_index_or es k d).number zero_row)
    own k d l =
        let e : (slice_index_or es k d).number ≡ k = (h.1 k d l).0 in
        let n : length es ≡ length rows = h.0 in
        (omega arith, (h.1 k d l).1 ∙ ap (λ (m : ℕ). slice_index_or rows m zero_row) (sym e))

-- what holds of two elements holds of the entries that they are
pub reached_at : (es : List Entry) (i j : ℕ) (x y d : Entry) (t : List (ℕ × ℤ)) (c : ℤ) (r : Ordering) → i < length es → j < length es → x ≡ slice_index_or es i x → y ≡ slice_index_or es j y
    → IsReached r x.row.now y.row.now t c → IsReached r (slice_index_or es i d).row.now (slice_index_or es j d).row.now t c
reached_at es i j x y d t c r l m ex ey h =
    let P : Entry → Type 0 = λ e. IsReached r e.row.now y.row.now t c in
    let Q : Entry → Type 0 = λ e. IsReached r (slice_index_or es i d).row.now e.row.now t c in
    subst Q (ey ∙ other_default es j y d m) (subst P (ex ∙ other_default es i x d l) h)
