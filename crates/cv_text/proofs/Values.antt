-- The value of digits, cut off where it is wide.
use Rattle.std.proofs.Common.{◌≡◌, ℕ, ◌+◌, ◌-◌, ◌*◌, ◌<◌, ◌≤◌, min, List, [], ◌∷◌, length, drop, get_or, add-one, drop-cons, refl, sym, ap, ◌∙◌, arith, ◌⊎◌, inl, inr}
use Rattle.cv_text.specs.Tokens.{value_behind}

grows : (n : ℕ) (ds : List ℕ) → n ≤ value_behind n ds
grows n [] = omega arith
grows n (d ∷ ds) = omega (arith, grows (10 * n + (d - 48)) ds)

-- a value that is wide may be cut off before the next digits
pub cut : (w n : ℕ) (ds : List ℕ) → min (value_behind (min n w) ds) w ≡ min (value_behind n ds) w
cut w n ds = by_size (split n w)
  where
    split : (n w : ℕ) → (min n w ≡ n) ⊎ ((w ≤ n) × (min n w ≡ w))
    split n w = grind arith

    by_size : (min n w ≡ n) ⊎ ((w ≤ n) × (min n w ≡ w)) → min (value_behind (min n w) ds) w ≡ min (value_behind n ds) w
    by_size (inl e) = ap (λ (i : ℕ). min (value_behind i ds) w) e
    by_size (inr h) = omega (arith, grows n ds, grows (min n w) ds)

pub keeps : (w n r v i : ℕ) (ds : List ℕ) → i < length ds → min (value_behind n (drop i ds)) w ≡ v → r ≡ min (10 * n + (get_or ds i 0 - 48)) w → min (value_behind r (drop (i + 1) ds)) w ≡ v
keeps w n r v i ds lt h e =
    let front : drop i ds ≡ get_or ds i 0 ∷ drop (i + 1) ds = rw (add-one, drop-cons ds i 0) refl in
    ap (λ (m : ℕ). min (value_behind m (drop (i + 1) ds)) w) e ∙ cut w (10 * n + (get_or ds i 0 - 48)) (drop (i + 1) ds) ∙ sym (ap (λ (u : List ℕ). min (value_behind n u) w) front) ∙ h
