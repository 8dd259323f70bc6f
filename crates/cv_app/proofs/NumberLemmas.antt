-- The value of digits that are read one by one.
use Rattle.std.proofs.Common.{◌≡◌, ℕ, ◌+◌, ◌-◌, ◌*◌, ◌<◌, ◌≤◌, List, [], ◌∷◌, length, drop, get_or, add-one, drop-cons, Option, None, Some, refl, sym, ap, ◌∙◌, arith}
use Rattle.cv_text.specs.Tokens.{value_behind, value_of}
use Rattle.cv_app.specs.Numbers.{number_up_to}

-- a value never falls as digits follow
grows : (n : ℕ) (ds : List ℕ) → n ≤ value_behind n ds
grows n [] = omega arith
grows n (d ∷ ds) = omega (arith, grows (10 * n + (d - 48)) ds)

-- the value with one more digit
pub next_digit : (n v i : ℕ) (ds : List ℕ) → i < length ds → value_behind n (drop i ds) ≡ v → value_behind (10 * n + (get_or ds i 0 - 48)) (drop (i + 1) ds) ≡ v
next_digit n v i ds lt h =
    let front : drop i ds ≡ get_or ds i 0 ∷ drop (i + 1) ds = rw (add-one, drop-cons ds i 0) refl in
    sym (ap (λ (u : List ℕ). value_behind n u) front) ∙ h

-- where one more digit passes a bound, so does the value of all
pub passes : (n v i m : ℕ) (ds : List ℕ) → i < length ds → value_behind n (drop i ds) ≡ v → m < 10 * n + (get_or ds i 0 - 48) → m < v
passes n v i m ds lt h more =
    let all = next_digit n v i ds lt h in
    let low = grows (10 * n + (get_or ds i 0 - 48)) (drop (i + 1) ds) in
    omega (arith, more, low, all)

-- a number past the bound is none
pub too_great : (most : ℕ) (word : List ℕ) → most < value_of word → None ≡ number_up_to most word
too_great most word more = grind arith
