-- In the results of the algebra the variables ascend and no coefficient is 0.
use Rattle.std.proofs.Common.{◌≡◌, ◌≢◌, ℕ, ◌<◌, ◌≤◌, zero, suc, ℤ, pos, negsuc, ◌+ℤ◌, ◌*ℤ◌, List, [], ◌∷◌, Bool, true, false, refl, sym, ap, ◌∙◌, arith, eqb-true, if◌then◌else◌, subst}
use Rattle.std.specs.Prelude.{nat_lt, ◌==◌}
use Rattle.std.specs.List.{All}
use Rattle.std.proofs.lemmas.Int.{ints}
use Rattle.std.proofs.lemmas.Bool.{ltb-true, ltb-false, eqb-false}
use Rattle.std.proofs.lemmas.List.Elements.{All-head, All-tail, All-cons, All-weaker, All-nil}
use Rattle.cv_num.specs.declared.rows.Row.{Row}
use Rattle.cv_num.specs.Pairs.{IsCanonical, coefficient_of}
use Rattle.cv_num.specs.Coefficients.{same_canonical}
use Rattle.cv_num.specs.Algebra.{with_pair, add_pair, add_pairs, times_pairs, number, variable, ◌⊕◌, ◌⊖◌, times, negative, substituted_pairs, substituted}

abbrev Above : ℕ → List (ℕ × ℤ) → Type 0
Above v ps = All (λ y. v < y.0) ps

pub with_pair-canonical : (v : ℕ) (c : ℤ) (ps : List (ℕ × ℤ)) → Above v ps → IsCanonical ps → IsCanonical (with_pair v c ps)
with_pair-canonical v (pos zero) ps a h = h
with_pair-canonical v (pos (suc n)) ps a h = ((λ e. absurd (omega (arith, ints, e))), a, h)
with_pair-canonical v (negsuc n) ps a h = ((λ e. absurd (omega (arith, ints, e))), a, h)

with_pair-above : (u v : ℕ) (c : ℤ) (ps : List (ℕ × ℤ)) → u < v → Above u ps → Above u (with_pair v c ps)
with_pair-above u v (pos zero) ps l a = a
with_pair-above u v (pos (suc n)) ps l a = All-cons (λ y. u < y.0) (v, pos (suc n)) ps l a
with_pair-above u v (negsuc n) ps l a = All-cons (λ y. u < y.0) (v, negsuc n) ps l a

above-cases : (u v : ℕ) (c : ℤ) (q : ℕ × ℤ) (ps : List (ℕ × ℤ)) → u < v → Above u (q ∷ ps) → Above u (add_pair v c ps) → (less same : Bool) →
    Above u (if less then with_pair v c (q ∷ ps) else if same then with_pair v (c +ℤ q.1) ps else q ∷ add_pair v c ps)
above-cases u v c q ps l a h true same = with_pair-above u v c (q ∷ ps) l a
above-cases u v c q ps l a h false true = with_pair-above u v (c +ℤ q.1) ps l (All-tail (λ y. u < y.0) q ps a)
above-cases u v c q ps l a h false false = All-cons (λ y. u < y.0) q (add_pair v c ps) (All-head (λ y. u < y.0) q ps a) h

add_pair-above : (u v : ℕ) (c : ℤ) (ps : List (ℕ × ℤ)) → u < v → Above u ps → Above u (add_pair v c ps)
add_pair-above u v c [] l a = with_pair-above u v c [] l a
add_pair-above u v c (q ∷ ps) l a =
    above-cases u v c q ps l a (add_pair-above u v c ps l (All-tail (λ y. u < y.0) q ps a)) (nat_lt v q.0) (v == q.0)

above-more : (u v : ℕ) (ps : List (ℕ × ℤ)) → u < v → Above v ps → Above u ps
above-more u v ps l a = All-weaker (λ y. v < y.0) (λ y. u < y.0) (λ y h. omega arith) ps a

canonical-cases : (v : ℕ) (c : ℤ) (q : ℕ × ℤ) (ps : List (ℕ × ℤ)) → IsCanonical (q ∷ ps) → IsCanonical (add_pair v c ps) → (less same : Bool) →
    nat_lt v q.0 ≡ less → (v == q.0) ≡ same →
    IsCanonical (if less then with_pair v c (q ∷ ps) else if same then with_pair v (c +ℤ q.1) ps else q ∷ add_pair v c ps)
canonical-cases v c q ps h k true same e f =
    let l : v < q.0 = ltb-true v q.0 e in
    with_pair-canonical v c (q ∷ ps) (All-cons (λ y. v < y.0) q ps l (above-more v q.0 ps l h.1)) h
canonical-cases v c q ps h k false true e f =
    let same : v ≡ q.0 = eqb-true v q.0 f in with_pair-canonical v (c +ℤ q.1) ps (subst (λ w. Above w ps) (sym same) h.1) h.2
canonical-cases v c q ps h k false false e f =
    let le : q.0 ≤ v = ltb-false v q.0 e in
    let apart : v ≢ q.0 = eqb-false v q.0 f in
    let l : q.0 < v = omega arith in (h.0, add_pair-above q.0 v c ps l h.1, k)

pub add_pair-canonical : (v : ℕ) (c : ℤ) (ps : List (ℕ × ℤ)) → IsCanonical ps → IsCanonical (add_pair v c ps)
add_pair-canonical v c [] h = with_pair-canonical v c [] (All-nil (λ y. v < y.0)) h
add_pair-canonical v c (q ∷ ps) h = canonical-cases v c q ps h (add_pair-canonical v c ps h.2) (nat_lt v q.0) (v == q.0) refl refl

pub add_pairs-canonical : (ps qs : List (ℕ × ℤ)) → IsCanonical qs → IsCanonical (add_pairs ps qs)
add_pairs-canonical [] qs h = h
add_pairs-canonical (x ∷ ps) qs h = add_pair-canonical x.0 x.1 (add_pairs ps qs) (add_pairs-canonical ps qs h)

times_pairs-above : (u : ℕ) (k : ℤ) (ps : List (ℕ × ℤ)) → Above u ps → Above u (times_pairs k ps)
times_pairs-above u k [] a = a
times_pairs-above u k (x ∷ ps) a =
    with_pair-above u x.0 (k *ℤ x.1) (times_pairs k ps) (All-head (λ y. u < y.0) x ps a) (times_pairs-above u k ps (All-tail (λ y. u < y.0) x ps a))

pub times_pairs-canonical : (k : ℤ) (ps : List (ℕ × ℤ)) → IsCanonical ps → IsCanonical (times_pairs k ps)
times_pairs-canonical k [] h = h
times_pairs-canonical k (x ∷ ps) h =
    with_pair-canonical x.0 (k *ℤ x.1) (times_pairs k ps) (times_pairs-above x.0 k ps h.1) (times_pairs-canonical k ps h.2)

-- ---- the forms of an expression

pub plus-canonical : (a b : Row) → IsCanonical b.pairs → IsCanonical (a ⊕ b).pairs
plus-canonical a b h = add_pairs-canonical a.pairs b.pairs h

pub times-canonical : (k : ℤ) (a : Row) → IsCanonical a.pairs → IsCanonical (times k a).pairs
times-canonical k a h = times_pairs-canonical k a.pairs h

pub minus-canonical : (a b : Row) → IsCanonical b.pairs → IsCanonical (a ⊖ b).pairs
minus-canonical a b h = plus-canonical a (negative b) (times-canonical (negsuc 0) b h)

pub variable-canonical : (v : ℕ) → IsCanonical (variable v).pairs
variable-canonical v = ((λ e. absurd (omega (arith, ints, e))), All-nil (λ y. v < y.0), tt)

number-canonical : (z : ℤ) → IsCanonical (number z).pairs
number-canonical z = tt

pub substituted-canonical : (by : List (ℕ × Row)) (a : Row) → IsCanonical (substituted by a).pairs
substituted-canonical by a = plus-canonical (substituted_pairs by a.pairs) (number a.constant) tt

-- ---- rows in this form are settled by their coefficients and constants

pub same_row : (a b : Row) → IsCanonical a.pairs → IsCanonical b.pairs → ((u : ℕ) → coefficient_of a.pairs u ≡ coefficient_of b.pairs u) → a.constant ≡ b.constant → a ≡ b
same_row a b h k e f = row_same a.pairs b.pairs a.constant b.constant (same_canonical a.pairs b.pairs h k e) f
  where
    row_same : (ps qs : List (ℕ × ℤ)) (x y : ℤ) → ps ≡ qs → x ≡ y → (let r : Row = record { pairs = ps; constant = x } in r) ≡ record { pairs = qs; constant = y }
    row_same ps qs x y e f =
        let P : List (ℕ × ℤ) → ℤ → Row = λ rs z. record { pairs = rs; constant = z } in ap (λ rs. P rs x) e ∙ ap (λ z. P qs z) f
