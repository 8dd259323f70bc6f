-- One turn of a loop that adds up what a row is worth at a point: the sum so far, and its size.
use Rattle.std.proofs.Common.{◌≡◌, ℕ, ◌<◌, ◌≤◌, ◌+◌, ℤ, pos, ◌+ℤ◌, ◌*ℤ◌, List, [], ◌∷◌, ◌∙◌, ap, arith, length, slice_index_or, unsigned_abs, take, ◌*◌, ◌^◌, FitsSigned, to_z, of_z}
use Rattle.std.specs.Int.{w64, w128}
use Rattle.std.proofs.lemmas.Int.{ints, to_z-of_z, unsigned_abs-mul}
use Rattle.std.proofs.lemmas.Grind.{take_at_read}
use Rattle.std.proofs.Math.Nat.{mul-le-mul}
use Rattle.cv_num.specs.Pairs.{sum_at}
use Rattle.cv_num.specs.Coefficients.{sum_at-append}

pub sum_at-more : (p : ℕ → ℤ) (xs : List (ℕ × ℤ)) (i : ℕ) → i < length xs → sum_at p (take (i + 1) xs) ≡ sum_at p (take i xs) +ℤ (slice_index_or xs i (0, pos 0)).1 *ℤ p (slice_index_or xs i (0, pos 0)).0
sum_at-more p xs i h =
    rw ((take_at_read xs i (0, pos 0) h).1, sum_at-append p (take i xs) (slice_index_or xs i (0, pos 0) ∷ [])) (omega (arith, ints))

abs_sum : (a b : ℤ) → unsigned_abs (a +ℤ b) ≤ unsigned_abs a + unsigned_abs b
abs_sum a b = omega (arith, ints)

abs_term : (c y : ℤ) → FitsSigned w64 c → unsigned_abs y ≤ 2 ^ 40 → unsigned_abs (c *ℤ y) ≤ 2 ^ 63 * 2 ^ 40
abs_term c y f h = let k : unsigned_abs c ≤ 2 ^ 63 = omega (arith, ints) in rw (unsigned_abs-mul c y) (mul-le-mul k h)

abs_more : (n : ℕ) (s t : ℤ) → unsigned_abs s ≤ 2 ^ 63 + n * (2 ^ 63 * 2 ^ 40) → unsigned_abs t ≤ 2 ^ 63 * 2 ^ 40 → unsigned_abs (s +ℤ t) ≤ 2 ^ 63 + (n + 1) * (2 ^ 63 * 2 ^ 40)
abs_more n s t h k = omega (arith, abs_sum s t)

small_fits : (n : ℕ) (s : ℤ) → n ≤ 4096 → unsigned_abs s ≤ 2 ^ 63 + n * (2 ^ 63 * 2 ^ 40) → FitsSigned w128 s
small_fits n s h k = omega (arith, ints)

pub value_turn : (p : ℕ → ℤ) (xs : List (ℕ × ℤ)) (i : ℕ) (k s r y : ℤ) → i < length xs → length xs ≤ 4096 → FitsSigned w64 (slice_index_or xs i (0, pos 0)).1 → unsigned_abs y ≤ 2 ^ 40 → y ≡ p (slice_index_or xs i (0, pos 0)).0
    → s ≡ k +ℤ sum_at p (take i xs) → unsigned_abs s ≤ 2 ^ 63 + i * (2 ^ 63 * 2 ^ 40)
    → r ≡ s +ℤ to_z w64 (of_z w64 (slice_index_or xs i (0, pos 0)).1) *ℤ to_z w64 (of_z w64 y)
    → (to_z w128 (of_z w128 r) ≡ k +ℤ sum_at p (take (i + 1) xs)) × (unsigned_abs (to_z w128 (of_z w128 r)) ≤ 2 ^ 63 + (i + 1) * (2 ^ 63 * 2 ^ 40))
value_turn p xs i k s r y h few fc small ey es hs er =
    let c : ℤ = (slice_index_or xs i (0, pos 0)).1 in
    let fy : FitsSigned w64 y = omega (arith, ints) in
    let eq : r ≡ s +ℤ c *ℤ y = er ∙ (ap (λ (z : ℤ). s +ℤ z *ℤ to_z w64 (of_z w64 y)) (to_z-of_z w64 c fc) ∙ ap (λ (z : ℤ). s +ℤ c *ℤ z) (to_z-of_z w64 y fy)) in
    let more : unsigned_abs (s +ℤ c *ℤ y) ≤ 2 ^ 63 + (i + 1) * (2 ^ 63 * 2 ^ 40) = abs_more i s (c *ℤ y) hs (abs_term c y fc small) in
    let fr : FitsSigned w128 (s +ℤ c *ℤ y) = small_fits (i + 1) (s +ℤ c *ℤ y) (omega arith) more in
    let at_y : c *ℤ y ≡ c *ℤ p (slice_index_or xs i (0, pos 0)).0 = ap (λ (z : ℤ). c *ℤ z) ey in
    let total : s +ℤ c *ℤ y ≡ k +ℤ sum_at p (take (i + 1) xs) = omega (arith, ints, sum_at-more p xs i h) in
    rw (eq, to_z-of_z w128 (s +ℤ c *ℤ y) fr) (total, more)
