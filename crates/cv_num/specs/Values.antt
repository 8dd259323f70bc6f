-- The value of an expression at a point: of a sum the sum, of a multiple the multiple.
use Rattle.std.proofs.Common.{◌≡◌, ℕ, zero, suc, ℤ, pos, negsuc, ◌+ℤ◌, ◌*ℤ◌, neg_ℤ, List, [], ◌∷◌, Bool, true, false, refl, ap, ◌∙◌, arith, eqb-true, if◌then◌else◌}
use Rattle.std.specs.Prelude.{nat_lt, ◌==◌}
use Rattle.std.proofs.lemmas.Int.{ints}
use Rattle.cv_num.specs.declared.rows.Row.{Row}
use Rattle.std.proofs.Math.IntN.{*ℤ-zero}
use Rattle.cv_num.specs.Pairs.{coefficient_of, sum_at}
use Rattle.cv_num.specs.Rows.{row_value}
use Rattle.cv_num.specs.Algebra.{with_pair, add_pair, add_pairs, times_pairs, number, variable, ◌⊕◌, ◌⊖◌, times, negative, image, substituted_pairs, substituted}
use Rattle.cv_num.specs.Whole.{*ℤ_assoc, *ℤ-+ℤ, +ℤ-*ℤ, minus_one-*}

with_pair-value : (p : ℕ → ℤ) (v : ℕ) (c : ℤ) (ps : List (ℕ × ℤ)) → sum_at p (with_pair v c ps) ≡ (c *ℤ p v) +ℤ sum_at p ps
with_pair-value p v (pos zero) ps = omega (arith, ints)
with_pair-value p v (pos (suc n)) ps = refl
with_pair-value p v (negsuc n) ps = refl

same-value : (p : ℕ → ℤ) (v u : ℕ) (c d : ℤ) (ps : List (ℕ × ℤ)) → v ≡ u → sum_at p (with_pair v (c +ℤ d) ps) ≡ (c *ℤ p v) +ℤ ((d *ℤ p u) +ℤ sum_at p ps)
same-value p v u c d ps e =
    with_pair-value p v (c +ℤ d) ps ∙ omega (arith, ints, +ℤ-*ℤ c d (p v), ap (λ (w : ℕ). d *ℤ p w) e)

add_pair-cases : (p : ℕ → ℤ) (v : ℕ) (c : ℤ) (q : ℕ × ℤ) (ps : List (ℕ × ℤ)) (less same : Bool) → (v == q.0) ≡ same →
    sum_at p (add_pair v c ps) ≡ (c *ℤ p v) +ℤ sum_at p ps →
    sum_at p (if less then with_pair v c (q ∷ ps) else if same then with_pair v (c +ℤ q.1) ps else q ∷ add_pair v c ps) ≡ (c *ℤ p v) +ℤ sum_at p (q ∷ ps)
add_pair-cases p v c q ps true same e h = with_pair-value p v c (q ∷ ps)
add_pair-cases p v c q ps false true e h = same-value p v q.0 c q.1 ps (eqb-true v q.0 e)
add_pair-cases p v c q ps false false e h = omega (arith, ints, h)

pub add_pair-value : (p : ℕ → ℤ) (v : ℕ) (c : ℤ) (ps : List (ℕ × ℤ)) → sum_at p (add_pair v c ps) ≡ (c *ℤ p v) +ℤ sum_at p ps
add_pair-value p v c [] = with_pair-value p v c []
add_pair-value p v c (q ∷ ps) = add_pair-cases p v c q ps (nat_lt v q.0) (v == q.0) refl (add_pair-value p v c ps)

add_pairs-value : (p : ℕ → ℤ) (ps qs : List (ℕ × ℤ)) → sum_at p (add_pairs ps qs) ≡ sum_at p ps +ℤ sum_at p qs
add_pairs-value p [] qs = omega (arith, ints)
add_pairs-value p (x ∷ ps) qs = add_pair-value p x.0 x.1 (add_pairs ps qs) ∙ omega (arith, ints, add_pairs-value p ps qs)

times_pairs-value : (p : ℕ → ℤ) (k : ℤ) (ps : List (ℕ × ℤ)) → sum_at p (times_pairs k ps) ≡ k *ℤ sum_at p ps
times_pairs-value p k [] = omega (arith, ints)
times_pairs-value p k (x ∷ ps) =
    with_pair-value p x.0 (k *ℤ x.1) (times_pairs k ps)
    ∙ omega (arith, ints, times_pairs-value p k ps, *ℤ_assoc k x.1 (p x.0), *ℤ-+ℤ k (x.1 *ℤ p x.0) (sum_at p ps))

-- ---- the four forms

pub number-value : (p : ℕ → ℤ) (z : ℤ) → row_value p (number z) ≡ z
number-value p z = omega (arith, ints)

pub variable-value : (p : ℕ → ℤ) (v : ℕ) → row_value p (variable v) ≡ p v
variable-value p v = omega (arith, ints)

pub plus-value : (p : ℕ → ℤ) (a b : Row) → row_value p (a ⊕ b) ≡ row_value p a +ℤ row_value p b
plus-value p a b = omega (arith, ints, add_pairs-value p a.pairs b.pairs)

pub times-value : (p : ℕ → ℤ) (k : ℤ) (a : Row) → row_value p (times k a) ≡ k *ℤ row_value p a
times-value p k a = omega (arith, ints, times_pairs-value p k a.pairs, *ℤ-+ℤ k (sum_at p a.pairs) a.constant)

pub negative-value : (p : ℕ → ℤ) (a : Row) → row_value p (negative a) ≡ neg_ℤ (row_value p a)
negative-value p a = times-value p (negsuc 0) a ∙ minus_one-* (row_value p a)

pub minus-value : (p : ℕ → ℤ) (a b : Row) → row_value p (a ⊖ b) ≡ row_value p a +ℤ neg_ℤ (row_value p b)
minus-value p a b = plus-value p a (negative b) ∙ ap (λ z. row_value p a +ℤ z) (negative-value p b)

-- ---- substitution

-- the point after the assignments
abbrev pub after_assigning : List (ℕ × Row) → (ℕ → ℤ) → ℕ → ℤ
after_assigning by p v = row_value p (image by v)

substituted_pairs-value : (p : ℕ → ℤ) (by : List (ℕ × Row)) (ps : List (ℕ × ℤ)) →
    row_value p (substituted_pairs by ps) ≡ sum_at (after_assigning by p) ps
substituted_pairs-value p by [] = refl
substituted_pairs-value p by (x ∷ ps) =
    plus-value p (times x.1 (image by x.0)) (substituted_pairs by ps)
    ∙ omega (arith, ints, times-value p x.1 (image by x.0), substituted_pairs-value p by ps)

-- a row after the substitution is worth what the row is worth at the point after the assignments
pub substituted-value : (p : ℕ → ℤ) (by : List (ℕ × Row)) (a : Row) → row_value p (substituted by a) ≡ row_value (after_assigning by p) a
substituted-value p by a =
    plus-value p (substituted_pairs by a.pairs) (number a.constant)
    ∙ omega (arith, ints, substituted_pairs-value p by a.pairs, number-value p a.constant)

-- ---- coefficients: each is the value at the point that is 1 at its variable and 0 elsewhere

abbrev unit_at : ℕ → ℕ → ℤ
unit_at u v = if v == u then pos 1 else pos 0

unit_more : (t : Bool) (c r s : ℤ) → r ≡ s → (if t then c else pos 0) +ℤ r ≡ (c *ℤ (if t then pos 1 else pos 0)) +ℤ s
unit_more true c r s e = omega (arith, ints)
unit_more false c r s e = omega (arith, ints, *ℤ-zero c)

coefficient-value : (ps : List (ℕ × ℤ)) (u : ℕ) → coefficient_of ps u ≡ sum_at (unit_at u) ps
coefficient-value [] u = refl
coefficient-value (x ∷ ps) u = unit_more (x.0 == u) x.1 (coefficient_of ps u) (sum_at (unit_at u) ps) (coefficient-value ps u)

pub plus-coefficient : (a b : Row) (u : ℕ) → coefficient_of (a ⊕ b).pairs u ≡ coefficient_of a.pairs u +ℤ coefficient_of b.pairs u
plus-coefficient a b u =
    rw (coefficient-value (add_pairs a.pairs b.pairs) u, coefficient-value a.pairs u, coefficient-value b.pairs u) (add_pairs-value (unit_at u) a.pairs b.pairs)

pub times-coefficient : (k : ℤ) (a : Row) (u : ℕ) → coefficient_of (times k a).pairs u ≡ k *ℤ coefficient_of a.pairs u
times-coefficient k a u =
    rw (coefficient-value (times_pairs k a.pairs) u, coefficient-value a.pairs u) (times_pairs-value (unit_at u) k a.pairs)

pub negative-coefficient : (a : Row) (u : ℕ) → coefficient_of (negative a).pairs u ≡ neg_ℤ (coefficient_of a.pairs u)
negative-coefficient a u = times-coefficient (negsuc 0) a u ∙ minus_one-* (coefficient_of a.pairs u)

substituted_pairs-coefficient : (by : List (ℕ × Row)) (ps : List (ℕ × ℤ)) (u : ℕ) →
    coefficient_of (substituted_pairs by ps).pairs u ≡ sum_at (λ v. coefficient_of (image by v).pairs u) ps
substituted_pairs-coefficient by [] u = refl
substituted_pairs-coefficient by (x ∷ ps) u =
    plus-coefficient (times x.1 (image by x.0)) (substituted_pairs by ps) u
    ∙ omega (arith, ints, times-coefficient x.1 (image by x.0) u, substituted_pairs-coefficient by ps u)

pub substituted-coefficient : (by : List (ℕ × Row)) (a : Row) (u : ℕ) →
    coefficient_of (substituted by a).pairs u ≡ sum_at (λ v. coefficient_of (image by v).pairs u) a.pairs
substituted-coefficient by a u =
    plus-coefficient (substituted_pairs by a.pairs) (number a.constant) u ∙ omega (arith, ints, substituted_pairs-coefficient by a.pairs u)

substituted_pairs-constant : (by : List (ℕ × Row)) (ps : List (ℕ × ℤ)) → (substituted_pairs by ps).constant ≡ sum_at (λ v. (image by v).constant) ps
substituted_pairs-constant by [] = refl
substituted_pairs-constant by (x ∷ ps) = ap (λ z. (x.1 *ℤ (image by x.0).constant) +ℤ z) (substituted_pairs-constant by ps)

pub substituted-constant : (by : List (ℕ × Row)) (a : Row) → (substituted by a).constant ≡ a.constant +ℤ sum_at (λ v. (image by v).constant) a.pairs
substituted-constant by a = omega (arith, ints, substituted_pairs-constant by a.pairs)

-- the same for lists of pairs
pub add_pairs-coefficient : (ps qs : List (ℕ × ℤ)) (u : ℕ) → coefficient_of (add_pairs ps qs) u ≡ coefficient_of ps u +ℤ coefficient_of qs u
add_pairs-coefficient ps qs u = plus-coefficient (record { pairs = ps; constant = pos 0 }) (record { pairs = qs; constant = pos 0 }) u

pub times_pairs-coefficient : (k : ℤ) (ps : List (ℕ × ℤ)) (u : ℕ) → coefficient_of (times_pairs k ps) u ≡ k *ℤ coefficient_of ps u
times_pairs-coefficient k ps u = times-coefficient k (record { pairs = ps; constant = pos 0 }) u
