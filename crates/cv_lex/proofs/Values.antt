-- The value of digits, cut off where it is wide.
use Rattle.std.proofs.Common.{◌≡◌, ℕ, ◌+◌, ◌*◌, ◌<◌, ◌≤◌, min, List, [], ◌∷◌, length, drop, get_or, add-one, drop-cons, refl, sym, ap, ◌∙◌, arith, ◌⊎◌, inl, inr}
use Rattle.cv_lex.specs.Bytes.{digit_value, value_behind}

grows : (base n : ℕ) (ds : List ℕ) → 1 ≤ base → n ≤ value_behind base n ds
grows base n [] h = omega arith
grows base n (d ∷ ds) h = omega (arith, product n base h, grows base (base * n + digit_value d) ds h)
  where
    product : (n base : ℕ) → 1 ≤ base → n ≤ base * n
    product n base h = grind arith

-- a value that is wide may be cut off before the next digits
pub cut : (base w n : ℕ) (ds : List ℕ) → 1 ≤ base → min (value_behind base (min n w) ds) w ≡ min (value_behind base n ds) w
cut base w n ds h = by_size (split n w)
  where
    split : (n w : ℕ) → (min n w ≡ n) ⊎ ((w ≤ n) × (min n w ≡ w))
    split n w = grind arith

    by_size : (min n w ≡ n) ⊎ ((w ≤ n) × (min n w ≡ w)) → min (value_behind base (min n w) ds) w ≡ min (value_behind base n ds) w
    by_size (inl e) = ap (λ (i : ℕ). min (value_behind base i ds) w) e
    by_size (inr k) = omega (arith, grows base n ds h, grows base (min n w) ds h)

pub keeps : (base w n r v i : ℕ) (ds : List ℕ) → 1 ≤ base → i < length ds → min (value_behind base n (drop i ds)) w ≡ v → r ≡ min (base * n + digit_value (get_or ds i 0)) w
    → min (value_behind base r (drop (i + 1) ds)) w ≡ v
keeps base w n r v i ds some lt h e =
    let front : drop i ds ≡ get_or ds i 0 ∷ drop (i + 1) ds = rw (add-one, drop-cons ds i 0) refl in
    ap (λ (m : ℕ). min (value_behind base m (drop (i + 1) ds)) w) e ∙ cut base w (base * n + digit_value (get_or ds i 0)) (drop (i + 1) ds) some ∙ sym (ap (λ (u : List ℕ). min (value_behind base n u) w) front) ∙ h
