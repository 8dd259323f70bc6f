-- The order of rows is a strict order in which any two compare, and sums keep it.
use Rattle.std.proofs.Common.{◌≡◌, ◌≢◌, ℕ, ◌<◌, ◌^◌, ℤ, pos, negsuc, ◌+ℤ◌, ◌*ℤ◌, ◌<ℤ◌, ◌≤ℤ◌, List, [], ◌∷◌, ◌⊎◌, inl, inr, Bool, true, false, refl, sym, subst, ◌∙◌, arith, zero, suc, nat_eq, eqb-true, if◌then◌else◌}
use Rattle.std.specs.Prelude.{int_lt}
use Rattle.std.specs.Ordering.{int_cmp, is_lt, MatchOrdering}
use Rattle.std.proofs.lemmas.Cmp.{int_ranked}
use Rattle.std.specs.declared.cmp.Ordering.{Ordering}
use Rattle.std.specs.declared.cmp.Ordering.TheVariants.{Less, Equal, Greater}
use Rattle.std.specs.Cmp.{IsStrictWeakOrder}
use Rattle.std.proofs.lemmas.Int.{ints}
use Rattle.std.proofs.lemmas.Bool.{false≢true, cases_order, cases_eq, eqb-false, false_from_ne_true, both_ways}
use Rattle.cv_num.specs.declared.rows.Row.{Row}
use Rattle.cv_num.specs.Pairs.{IsCanonical, coefficient_of}
use Rattle.cv_num.specs.Whole.{minus_one-*}
use Rattle.cv_num.specs.Algebra.{add_pairs, times_pairs}
use Rattle.cv_num.specs.Values.{add_pairs-coefficient, times_pairs-coefficient}
use Rattle.cv_num.specs.Canonical.{add_pairs-canonical}
use Rattle.cv_num.specs.Coefficients.{coefficient_of-head, coefficient_of-under, coefficient_of-append}
use Rattle.cv_farkas.specs.Order.{IsBelow, IsCompared, entries, is_rising, row_lt}

-- ---- functions
pub below-antisym : (f g : ℕ → ℤ) → IsBelow f g → IsBelow g f → ⊥
below-antisym f g a b = at (cases_order a.at b.at)
  where
    at : (a.at ≡ b.at) ⊎ ((a.at < b.at) ⊎ (b.at < a.at)) → ⊥
    at (inl e) =
        let l : f b.at <ℤ g b.at = (let P : ℕ → Type 0 = λ u. f u <ℤ g u in subst P e a.less) in
        let m : g b.at <ℤ f b.at = b.less in omega (arith, ints)
    at (inr (inl l)) = let e : g a.at ≡ f a.at = b.same a.at l in let m : f a.at <ℤ g a.at = a.less in omega (arith, ints)
    at (inr (inr l)) = let e : f b.at ≡ g b.at = a.same b.at l in let m : g b.at <ℤ f b.at = b.less in omega (arith, ints)

pub below-trans : (f g h : ℕ → ℤ) → IsBelow f g → IsBelow g h → IsBelow f h
below-trans f g h a b = at (cases_order a.at b.at)
  where
    at : (a.at ≡ b.at) ⊎ ((a.at < b.at) ⊎ (b.at < a.at)) → IsBelow f h
    at (inl e) =
        let l : f b.at <ℤ g b.at = (let P : ℕ → Type 0 = λ u. f u <ℤ g u in subst P e a.less) in
        let m : g b.at <ℤ h b.at = b.less in
        record { at = b.at; less = omega (arith, ints); same = λ u k. a.same u (omega arith) ∙ b.same u k }
    at (inr (inl l)) =
        let e : g a.at ≡ h a.at = b.same a.at l in
        let m : f a.at <ℤ g a.at = a.less in record { at = a.at; less = omega (arith, ints); same = λ u k. a.same u k ∙ b.same u (omega arith) }
    at (inr (inr l)) =
        let e : f b.at ≡ g b.at = a.same b.at l in
        let m : g b.at <ℤ h b.at = b.less in record { at = b.at; less = omega (arith, ints); same = λ u k. a.same u (omega arith) ∙ b.same u k }

-- what is added on both sides changes nothing
pub below-shift : (f g p q : ℕ → ℤ) → ((u : ℕ) → f u +ℤ q u ≡ g u +ℤ p u) → IsBelow f g → IsBelow p q
below-shift f g p q e b =
    let m : f b.at <ℤ g b.at = b.less in
    record {
      at = b.at;
      less = (let k : f b.at +ℤ q b.at ≡ g b.at +ℤ p b.at = e b.at in omega (arith, ints));
      same = λ u l. (let k : f u +ℤ q u ≡ g u +ℤ p u = e u in let s : f u ≡ g u = b.same u l in omega (arith, ints));
    }

-- the same, with the variable in a range
pub shift_within : (f g p q : ℕ → ℤ) (n : ℕ) → ((u : ℕ) → f u +ℤ q u ≡ g u +ℤ p u) → (b : IsBelow f g) × (b.at < n) → (b : IsBelow p q) × (b.at < n)
shift_within f g p q n e s =
    let m : f s.0.at <ℤ g s.0.at = s.0.less in (
      record {
        at = s.0.at;
        less = (let k : f s.0.at +ℤ q s.0.at ≡ g s.0.at +ℤ p s.0.at = e s.0.at in omega (arith, ints));
        same = λ u l. (let k : f u +ℤ q u ≡ g u +ℤ p u = e u in let s : f u ≡ g u = s.0.same u l in omega (arith, ints));
      },
      s.1,
    )

-- ---- rising lists
abbrev zeros : ℕ → ℤ
zeros u = pos 0

rising-below : (ps : List (ℕ × ℤ)) → IsCanonical ps → is_rising ps ≡ true → IsBelow zeros (coefficient_of ps)
rising-below [] h e = absurd (false≢true e)
rising-below (p ∷ ps) h e = record {
  at = p.0;
  less = (let k : pos 0 <ℤ p.1 = grind (arith, ints) in rw (coefficient_of-head p ps h) k);
  same = λ u l. sym (coefficient_of-under u p ps h l);
}

below-rising : (ps : List (ℕ × ℤ)) → IsCanonical ps → IsBelow zeros (coefficient_of ps) → is_rising ps ≡ true
below-rising [] h b = absurd (let k : pos 0 <ℤ pos 0 = b.less in omega (arith, ints))
below-rising (p ∷ ps) h b = at (cases_order b.at p.0)
  where
    at : (b.at ≡ p.0) ⊎ ((b.at < p.0) ⊎ (p.0 < b.at)) → int_lt (pos 0) p.1 ≡ true
    at (inl e) =
        let k : pos 0 <ℤ coefficient_of (p ∷ ps) p.0 = (let P : ℕ → Type 0 = λ u. pos 0 <ℤ coefficient_of (p ∷ ps) u in subst P e b.less) in
        let l : pos 0 <ℤ p.1 = (let P : ℤ → Type 0 = λ z. pos 0 <ℤ z in subst P (coefficient_of-head p ps h) k) in grind (arith, ints)
    at (inr (inl l)) =
        let k : pos 0 <ℤ coefficient_of (p ∷ ps) b.at = b.less in
        let z : coefficient_of (p ∷ ps) b.at ≡ pos 0 = coefficient_of-under b.at p ps h l in
        absurd (let m : pos 0 <ℤ pos 0 = (let P : ℤ → Type 0 = λ z. pos 0 <ℤ z in subst P z k) in omega (arith, ints))
    at (inr (inr l)) = absurd (h.0 (sym (coefficient_of-head p ps h) ∙ sym (b.same p.0 l)))

falling-below : (ps : List (ℕ × ℤ)) → IsCanonical ps → (is_rising ps ≡ true) ⊎ (IsBelow (coefficient_of ps) zeros ⊎ ((u : ℕ) → coefficient_of ps u ≡ pos 0))
falling-below [] h = inr (inr (λ u. refl))
falling-below ((v, pos zero) ∷ ps) h = absurd (h.0 refl)
falling-below ((v, pos (suc n)) ∷ ps) h = inl (grind (arith, ints))
falling-below ((v, negsuc n) ∷ ps) h =
    inr (inl (record {
      at = v;
      less = (let k : negsuc n <ℤ pos 0 = omega (arith, ints) in rw (coefficient_of-head (v, negsuc n) ps h) k);
      same = λ u l. coefficient_of-under u (v, negsuc n) ps h l;
    }))

-- ---- rows
abbrev rise : Row → Row → List (ℕ × ℤ)
rise a b = add_pairs (entries b) (add_pairs (times_pairs (negsuc 0) (entries a)) [])

rise-canonical : (a b : Row) → IsCanonical (rise a b)
rise-canonical a b = add_pairs-canonical (entries b) (add_pairs (times_pairs (negsuc 0) (entries a)) []) (add_pairs-canonical (times_pairs (negsuc 0) (entries a)) [] tt)

rise-entry : (a b : Row) (u : ℕ) → coefficient_of (rise a b) u +ℤ coefficient_of (entries a) u ≡ coefficient_of (entries b) u
rise-entry a b u =
    omega (
      arith,
      ints,
      add_pairs-coefficient (entries b) (add_pairs (times_pairs (negsuc 0) (entries a)) []) u,
      add_pairs-coefficient (times_pairs (negsuc 0) (entries a)) [] u,
      times_pairs-coefficient (negsuc 0) (entries a) u,
      minus_one-* (coefficient_of (entries a) u),
    )

pub lt-below : (a b : Row) → row_lt a b ≡ true → IsBelow (coefficient_of (entries a)) (coefficient_of (entries b))
lt-below a b e =
    below-shift zeros (coefficient_of (rise a b)) (coefficient_of (entries a)) (coefficient_of (entries b))
    (λ u. let k : coefficient_of (rise a b) u +ℤ coefficient_of (entries a) u ≡ coefficient_of (entries b) u = rise-entry a b u in omega (arith, ints))
    (rising-below (rise a b) (rise-canonical a b) e)

pub below-lt : (a b : Row) → IsBelow (coefficient_of (entries a)) (coefficient_of (entries b)) → row_lt a b ≡ true
below-lt a b h =
    below-rising (rise a b) (rise-canonical a b)
    (below-shift (coefficient_of (entries a)) (coefficient_of (entries b)) zeros (coefficient_of (rise a b))
    (λ u. let k : coefficient_of (rise a b) u +ℤ coefficient_of (entries a) u ≡ coefficient_of (entries b) u = rise-entry a b u in omega (arith, ints)) h)

three_ways : (a b : Row) → (row_lt a b ≡ true) ⊎ (IsBelow (coefficient_of (entries b)) (coefficient_of (entries a)) ⊎ ((u : ℕ) → coefficient_of (entries a) u ≡ coefficient_of (entries b) u))
three_ways a b = at (falling-below (rise a b) (rise-canonical a b))
  where
    at : (is_rising (rise a b) ≡ true) ⊎ (IsBelow (coefficient_of (rise a b)) zeros ⊎ ((u : ℕ) → coefficient_of (rise a b) u ≡ pos 0)) → (row_lt a b ≡ true) ⊎ (IsBelow (coefficient_of (entries b)) (coefficient_of (entries a)) ⊎ ((u : ℕ) → coefficient_of (entries a) u ≡ coefficient_of (entries b) u))
    at (inl h) = inl h
    at (inr (inl h)) =
        inr (inl (below-shift (coefficient_of (rise a b)) zeros (coefficient_of (entries b)) (coefficient_of (entries a))
        (λ u. let k : coefficient_of (rise a b) u +ℤ coefficient_of (entries a) u ≡ coefficient_of (entries b) u = rise-entry a b u in omega (arith, ints)) h))
    at (inr (inr h)) =
        inr (inr (λ u. let k : coefficient_of (rise a b) u +ℤ coefficient_of (entries a) u ≡ coefficient_of (entries b) u = rise-entry a b u in let z : coefficient_of (rise a b) u ≡ pos 0 = h u in omega (arith, ints)))

below-same : (f g h : ℕ → ℤ) → ((u : ℕ) → f u ≡ g u) → IsBelow f h → IsBelow g h
below-same f g h e b = record { at = b.at; less = (let P : ℤ → Type 0 = λ z. z <ℤ h b.at in subst P (e b.at) b.less); same = λ u l. sym (e u) ∙ b.same u l }

pub row_order : IsStrictWeakOrder row_lt
row_order = record {
  one_way = λ x y e. false_from_ne_true (row_lt y x) (λ k. below-antisym (coefficient_of (entries x)) (coefficient_of (entries y)) (lt-below x y e) (lt-below y x k));
  chain = λ x y z e k. false_from_ne_true (row_lt x z) (λ l. chain x y z e k (lt-below x z l) (three_ways x y));
}
  where
    chain : (x y z : Row) → row_lt x y ≡ false → row_lt y z ≡ false → IsBelow (coefficient_of (entries x)) (coefficient_of (entries z))
        → (row_lt x y ≡ true) ⊎ (IsBelow (coefficient_of (entries y)) (coefficient_of (entries x)) ⊎ ((u : ℕ) → coefficient_of (entries x) u ≡ coefficient_of (entries y) u)) → ⊥
    chain x y z e k l (inl h) = both_ways (row_lt x y) e h
    chain x y z e k l (inr (inl h)) =
        both_ways (row_lt y z) k (below-lt y z (below-trans (coefficient_of (entries y)) (coefficient_of (entries x)) (coefficient_of (entries z)) h l))
    chain x y z e k l (inr (inr h)) = both_ways (row_lt y z) k (below-lt y z (below-same (coefficient_of (entries x)) (coefficient_of (entries y)) (coefficient_of (entries z)) h l))

-- ---- the order by coefficients and constants
other_entry : (r : Row) (u : ℕ) → u ≢ 2 ^ 32 → coefficient_of (entries r) u ≡ coefficient_of r.pairs u
other_entry r u apart = coefficient_of-append r.pairs ((2 ^ 32, r.constant) ∷ []) u ∙ at (nat_eq (2 ^ 32) u) (coefficient_of r.pairs u) refl
  where
    at : (t : Bool) (c : ℤ) → nat_eq (2 ^ 32) u ≡ t → c +ℤ ((if t then r.constant else pos 0) +ℤ pos 0) ≡ c
    at true c e = absurd (apart (sym (eqb-true (2 ^ 32) u e)))
    at false c e = omega (arith, ints)

last_entry : (r : Row) (u : ℕ) → u ≡ 2 ^ 32 → coefficient_of (entries r) u ≡ coefficient_of r.pairs u +ℤ r.constant
last_entry r u same = coefficient_of-append r.pairs ((2 ^ 32, r.constant) ∷ []) u ∙ at (nat_eq (2 ^ 32) u) (coefficient_of r.pairs u) refl
  where
    at : (t : Bool) (c : ℤ) → nat_eq (2 ^ 32) u ≡ t → c +ℤ ((if t then r.constant else pos 0) +ℤ pos 0) ≡ c +ℤ r.constant
    at true c e = omega (arith, ints)
    at false c e = absurd (eqb-false (2 ^ 32) u e (sym same))

-- the coefficients decide
pub pairs_before : (a b : Row) → (s : IsBelow (coefficient_of a.pairs) (coefficient_of b.pairs)) × (s.at < 2 ^ 32) → row_lt a b ≡ true
pairs_before a b s =
    let m : coefficient_of a.pairs s.0.at <ℤ coefficient_of b.pairs s.0.at = s.0.less in
    below-lt a b (record {
      at = s.0.at;
      less = rw (other_entry a s.0.at (under s.0.at s.1), other_entry b s.0.at (under s.0.at s.1)) m;
      same = λ u l. other_entry a u (under u (omega arith)) ∙ (s.0.same u l ∙ sym (other_entry b u (under u (omega arith))));
    })
  where
    under : (u : ℕ) → u < 2 ^ 32 → u ≢ 2 ^ 32
    under u l e = omega arith

-- where the coefficients are equal, the constants decide
pub constant_before : (a b : Row) → ((u : ℕ) → coefficient_of a.pairs u ≡ coefficient_of b.pairs u) → a.constant <ℤ b.constant → row_lt a b ≡ true
constant_before a b e l =
    below-lt a b (record {
      at = 2 ^ 32;
      less = (
          let x : coefficient_of (entries a) (2 ^ 32) ≡ coefficient_of a.pairs (2 ^ 32) +ℤ a.constant = last_entry a (2 ^ 32) refl in
          let y : coefficient_of (entries b) (2 ^ 32) ≡ coefficient_of b.pairs (2 ^ 32) +ℤ b.constant = last_entry b (2 ^ 32) refl in
          less_by (coefficient_of (entries a) (2 ^ 32)) (coefficient_of (entries b) (2 ^ 32)) (coefficient_of a.pairs (2 ^ 32)) (coefficient_of b.pairs (2 ^ 32)) a.constant b.constant x y (e (2 ^ 32)) l
          );
      same = λ u k. other_entry a u (under u k) ∙ (e u ∙ sym (other_entry b u (under u k)));
    })
  where
    under : (u : ℕ) → u < 2 ^ 32 → u ≢ 2 ^ 32
    under u l e = omega arith

    less_by : (x y p q c d : ℤ) → x ≡ p +ℤ c → y ≡ q +ℤ d → p ≡ q → c <ℤ d → x <ℤ y
    less_by x y p q c d ex ey e l = omega (arith, ints)

pub not_before : (a b : Row) → ((u : ℕ) → coefficient_of a.pairs u ≡ coefficient_of b.pairs u) → b.constant ≤ℤ a.constant → row_lt a b ≡ false
not_before a b e l = false_from_ne_true (row_lt a b) (λ k. at (lt-below a b k))
  where
    no_less : (x y p q c d : ℤ) → x ≡ p +ℤ c → y ≡ q +ℤ d → p ≡ q → d ≤ℤ c → x <ℤ y → ⊥
    no_less x y p q c d ex ey e l m = omega (arith, ints)

    same_less : (x y p q : ℤ) → x ≡ p → y ≡ q → p ≡ q → x <ℤ y → ⊥
    same_less x y p q ex ey e m = omega (arith, ints)

    cases : (u : ℕ) → coefficient_of (entries a) u <ℤ coefficient_of (entries b) u → (u ≡ 2 ^ 32) ⊎ (u ≡ 2 ^ 32 → ⊥) → ⊥
    cases u m (inl s) =
        no_less (coefficient_of (entries a) u) (coefficient_of (entries b) u) (coefficient_of a.pairs u) (coefficient_of b.pairs u) a.constant b.constant (last_entry a u s) (last_entry b u s) (e u) l m
    cases u m (inr s) = same_less (coefficient_of (entries a) u) (coefficient_of (entries b) u) (coefficient_of a.pairs u) (coefficient_of b.pairs u) (other_entry a u s) (other_entry b u s) (e u) m

    at : IsBelow (coefficient_of (entries a)) (coefficient_of (entries b)) → ⊥
    at s = cases s.at s.less (cases_eq s.at (2 ^ 32))

-- ---- how the code compares two rows
pub unequal_rows : (a b : Row) (r : Ordering) → r ≢ Equal → IsCompared r (λ u. coefficient_of a.pairs u +ℤ negsuc 0 *ℤ coefficient_of b.pairs u) (coefficient_of []) → is_lt r ≡ row_lt a b
unequal_rows a b Less n h =
    sym (pairs_before a b (shift_within (λ u. coefficient_of a.pairs u +ℤ negsuc 0 *ℤ coefficient_of b.pairs u) (coefficient_of []) (coefficient_of a.pairs) (coefficient_of b.pairs) (2 ^ 32)
    (λ u. omega (arith, ints, minus_one-* (coefficient_of b.pairs u))) h))
unequal_rows a b Equal n h = absurd (n refl)
unequal_rows a b Greater n h =
    sym (row_order.one_way b a (pairs_before b a (shift_within (coefficient_of []) (λ u. coefficient_of a.pairs u +ℤ negsuc 0 *ℤ coefficient_of b.pairs u) (coefficient_of b.pairs) (coefficient_of a.pairs) (2 ^ 32)
    (λ u. omega (arith, ints, minus_one-* (coefficient_of b.pairs u))) h)))

pub equal_rows : (a b : Row) (r : Ordering) → r ≡ int_cmp a.constant b.constant → ((u : ℕ) → coefficient_of a.pairs u +ℤ negsuc 0 *ℤ coefficient_of b.pairs u ≡ pos 0) → is_lt r ≡ row_lt a b
equal_rows a b r e h = at r (int_ranked a.constant b.constant r e)
  where
    same : (u : ℕ) → coefficient_of a.pairs u ≡ coefficient_of b.pairs u
    same u = let k : coefficient_of a.pairs u +ℤ negsuc 0 *ℤ coefficient_of b.pairs u ≡ pos 0 = h u in omega (arith, ints, minus_one-* (coefficient_of b.pairs u))

    at : (r : Ordering) → MatchOrdering r (a.constant <ℤ b.constant) (a.constant ≡ b.constant) (b.constant <ℤ a.constant) → is_lt r ≡ row_lt a b
    at Less l = sym (constant_before a b same l)
    at Equal l = sym (not_before a b same (omega (arith, ints)))
    at Greater l = sym (not_before a b same (omega (arith, ints)))
