-- Where the hypotheses are at least 0 at a point, so is what a step proves, and what is direct.
use Rattle.std.proofs.Common.{◌≡◌, ℕ, ◌≤◌, ◌-◌, ◌*◌, ℤ, pos, negsuc, ◌+ℤ◌, ◌*ℤ◌, ◌≤ℤ◌, List, [], ◌∷◌, ◌++◌, refl, sym, ◌∙◌, ap, subst, arith, length, slice_index_or, suc, inl, inr, ◌⊎◌}
use Rattle.std.proofs.lemmas.Int.{ints}
use Rattle.std.specs.List.{All}
use Rattle.cv_num.specs.declared.rows.Row.{Row}
use Rattle.cv_num.specs.declared.rows.Wide.{Wide}
use Rattle.cv_num.specs.Pairs.{coefficient_of, sum_at, scaled}
use Rattle.cv_num.specs.Rows.{row_value, wide_value}
use Rattle.cv_num.specs.Whole.{*ℤ-+ℤ, *ℤ_nonneg}
use Rattle.cv_num.specs.Coefficients.{same_sums, coefficient_of-scaled, sum_at-scaled, coefficient_of-append, sum_at-append}
use Rattle.cv_farkas.specs.Parts.{sum_of_parts, zero_row}
use Rattle.cv_farkas.specs.Steps.{IsDirect}
use Rattle.cv_farkas.specs.Covers.{AreParts, IsInRange, IsCovered, minus_one}

-- ---- what is covered is at least 0 wherever the hypotheses are
-- the multiples of the hypotheses, one after another
abbrev flat : List Row → List (ℕ × ℕ) → List (ℕ × ℤ)
flat hyps [] = []
flat hyps (p ∷ ps) = scaled (pos p.1) (slice_index_or hyps p.0 zero_row).pairs ++ flat hyps ps

coefficient_of-flat : (hyps : List Row) (ps : List (ℕ × ℕ)) (u : ℕ) → coefficient_of (flat hyps ps) u ≡ sum_of_parts (λ r. coefficient_of r.pairs u) hyps ps
coefficient_of-flat hyps [] u = refl
coefficient_of-flat hyps (p ∷ ps) u =
    let row : Row = slice_index_or hyps p.0 zero_row in
    rw (coefficient_of-append (scaled (pos p.1) row.pairs) (flat hyps ps) u, coefficient_of-scaled (pos p.1) row.pairs u, coefficient_of-flat hyps ps u) refl

sum_at-flat : (at : ℕ → ℤ) (hyps : List Row) (ps : List (ℕ × ℕ)) → sum_at at (flat hyps ps) ≡ sum_of_parts (λ r. sum_at at r.pairs) hyps ps
sum_at-flat at hyps [] = refl
sum_at-flat at hyps (p ∷ ps) =
    let row : Row = slice_index_or hyps p.0 zero_row in
    rw (sum_at-append at (scaled (pos p.1) row.pairs) (flat hyps ps), sum_at-scaled at (pos p.1) row.pairs, sum_at-flat at hyps ps) refl

sum_of_values : (at : ℕ → ℤ) (hyps : List Row) (ps : List (ℕ × ℕ)) → sum_of_parts (row_value at) hyps ps ≡ sum_of_parts (λ r. sum_at at r.pairs) hyps ps +ℤ sum_of_parts (λ r. r.constant) hyps ps
sum_of_values at hyps [] = refl
sum_of_values at hyps (p ∷ ps) =
    let row : Row = slice_index_or hyps p.0 zero_row in
    omega (arith, ints, *ℤ-+ℤ (pos p.1) (sum_at at row.pairs) row.constant, sum_of_values at hyps ps)

values_nonneg : (at : ℕ → ℤ) (hyps : List Row) (ps : List (ℕ × ℕ)) → All (λ r. pos 0 ≤ℤ row_value at r) hyps → AreParts (length hyps) ps → pos 0 ≤ℤ sum_of_parts (row_value at) hyps ps
values_nonneg at hyps [] a h = omega (arith, ints)
values_nonneg at hyps (p ∷ ps) a h =
    omega (arith, ints, *ℤ_nonneg p.1 (row_value at (slice_index_or hyps p.0 zero_row)) (a p.0 zero_row h.0), values_nonneg at hyps ps a h.4)

divide_out : (d : ℕ) (z : ℤ) → 1 ≤ d → pos 0 ≤ℤ (pos d *ℤ z +ℤ pos (d - 1)) → pos 0 ≤ℤ z
divide_out d (pos n) h k = omega (arith, ints)
divide_out d (negsuc n) h k = absurd (omega (arith, ints, grows d n))
  where
    grows : (d n : ℕ) → d ≤ d * suc n
    grows d n = omega arith

pub covered_nonneg : (at : ℕ → ℤ) (hyps : List Row) (goal : Wide) (d : ℕ) (ps : List (ℕ × ℕ)) → IsInRange (length hyps) d ps → IsCovered hyps goal d ps → All (λ r. pos 0 ≤ℤ row_value at r) hyps → pos 0 ≤ℤ wide_value at goal
covered_nonneg at hyps goal d ps range c a =
    let same : pos d *ℤ sum_at at goal.pairs ≡ sum_of_parts (λ r. sum_at at r.pairs) hyps ps =
    sym (sum_at-scaled at (pos d) goal.pairs)
    ∙ (same_sums at (scaled (pos d) goal.pairs) (flat hyps ps) (λ u. coefficient_of-scaled (pos d) goal.pairs u ∙ (c.coefficients u ∙ sym (coefficient_of-flat hyps ps u)))
    ∙ sum_at-flat at hyps ps) in
    let total : sum_of_parts (row_value at) hyps ps ≡ sum_of_parts (λ r. sum_at at r.pairs) hyps ps +ℤ sum_of_parts (λ r. r.constant) hyps ps = sum_of_values at hyps ps in
    let low : pos 0 ≤ℤ sum_of_parts (row_value at) hyps ps = values_nonneg at hyps ps a range.listed in
    let least : sum_of_parts (λ r. r.constant) hyps ps ≤ℤ (pos d *ℤ goal.constant +ℤ pos (d - 1)) = c.constant in
    let spread : pos d *ℤ wide_value at goal ≡ pos d *ℤ sum_at at goal.pairs +ℤ pos d *ℤ goal.constant = *ℤ-+ℤ (pos d) (sum_at at goal.pairs) goal.constant in
    divide_out d (wide_value at goal) range.positive
    (combine (pos d *ℤ wide_value at goal) (pos d *ℤ sum_at at goal.pairs) (pos d *ℤ goal.constant) (sum_of_parts (row_value at) hyps ps) (sum_of_parts (λ r. sum_at at r.pairs) hyps ps) (sum_of_parts (λ r. r.constant) hyps ps) (pos (d - 1)) spread same total low least)
  where
    combine : (v s c t x y e : ℤ) → v ≡ s +ℤ c → s ≡ x → t ≡ x +ℤ y → pos 0 ≤ℤ t → y ≤ℤ (c +ℤ e) → pos 0 ≤ℤ (v +ℤ e)
    combine v s c t x y e p q r l m = omega (arith, ints)

pub minus_one_never : (at : ℕ → ℤ) → pos 0 ≤ℤ wide_value at minus_one → ⊥
minus_one_never at h = omega (arith, ints)

pub holds_nonneg : (at : ℕ → ℤ) (hyps : List Row) (goal : Wide) (d : ℕ) (ps : List (ℕ × ℕ)) → IsInRange (length hyps) d ps → IsCovered hyps goal d ps ⊎ ((d ≡ 1) × IsCovered hyps minus_one 1 ps) → All (λ r. pos 0 ≤ℤ row_value at r) hyps → pos 0 ≤ℤ wide_value at goal
holds_nonneg at hyps goal d ps range (inl c) a = covered_nonneg at hyps goal d ps range c a
holds_nonneg at hyps goal d ps range (inr c) a =
    let one : IsInRange (length hyps) 1 ps = record { few = range.few; positive = omega arith; at_most = omega arith; listed = range.listed } in
    absurd (minus_one_never at (covered_nonneg at hyps minus_one 1 ps one c.1 a))

pub direct_nonneg : (at : ℕ → ℤ) (hyps : List Row) (goal : Wide) → IsDirect hyps goal → All (λ r. pos 0 ≤ℤ row_value at r) hyps → pos 0 ≤ℤ wide_value at goal
direct_nonneg at hyps goal (inl h) a = let none : sum_at at goal.pairs ≡ pos 0 = ap (sum_at at) h.0 in omega (arith, ints, none, h.1)
direct_nonneg at hyps goal (inr s) a =
    let low : pos 0 ≤ℤ row_value at s.1 = (let P : Row → Type 0 = λ r. pos 0 ≤ℤ row_value at r in subst P s.3 (a s.0 s.1 s.2)) in
    let same : sum_at at s.1.pairs ≡ sum_at at goal.pairs = ap (sum_at at) s.4.0 in
    omega (arith, ints, low, same, s.4.1)
