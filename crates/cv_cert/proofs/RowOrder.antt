-- The order of rows, and which rows are canonical.
use Rattle.std.proofs.Common.{◌≡◌, ◌≢◌, ℕ, zero, suc, ◌-◌, ◌<◌, ◌≤◌, Bool, true, false, not, ◌&&◌, cond, nat_lt, List, [], ◌∷◌, ◌++◌, length, get_or, Some, None, ℤ, pos, refl, sym, ap, subst, ◌∙◌, arith}
use Rattle.std.specs.Ordering.{int_eq}
use Rattle.std.specs.List.{All, list_all}
use Rattle.std.proofs.lemmas.Bool.Decides.{nat_tests}
use Rattle.std.proofs.lemmas.Int.{ints}
use Rattle.cv_num.specs.Pairs.{IsCanonical}
use Rattle.cv_num.specs.declared.rows.Row.{Row}
use Rattle.cv_cert.specs.Tokens.{is_canonical}
use Rattle.cv_cert.specs.Lines.{if_canonical, made_row}
use Rattle.cv_cert.specs.Views.{last_row}

-- ---- canonical

all_above : (v : ℕ) (xs : List (ℕ × ℤ)) → list_all (λ y. nat_lt v y.0) xs ≡ true → All (λ y. v < y.0) xs
all_above v [] h = λ k d lt. absurd (omega arith)
all_above v (x ∷ xs) h = above (nat_lt v x.0) refl (λ k. all_above v xs k) h
  where
    above : (b : Bool) → nat_lt v x.0 ≡ b → (list_all (λ y. nat_lt v y.0) xs ≡ true → All (λ y. v < y.0) xs) → b && list_all (λ y. nat_lt v y.0) xs ≡ true → All (λ y. v < y.0) (x ∷ xs)
    above false e go k = absurd cc
    above true e go k = λ i d lt. at i d lt (go k)
      where
        at : (i : ℕ) (d : ℕ × ℤ) → i < suc (length xs) → All (λ y. v < y.0) xs → v < (get_or (x ∷ xs) i d).0
        at zero d lt rest = grind (arith, nat_tests)
        at (suc i) d lt rest = rest i d (omega arith)

above_all : (v : ℕ) (xs : List (ℕ × ℤ)) → All (λ y. v < y.0) xs → list_all (λ y. nat_lt v y.0) xs ≡ true
above_all v [] h = refl
above_all v (x ∷ xs) h =
    let first : nat_lt v x.0 ≡ true = (let k : v < x.0 = h 0 x (omega arith) in grind (arith, nat_tests)) in
    let rest = above_all v xs (λ i d lt. h (suc i) d (omega arith)) in
    rw (first, rest) refl

not_zero : (z : ℤ) → not (int_eq z (pos 0)) ≡ true → z ≢ pos 0
not_zero z h e = (let k : not (int_eq (pos 0) (pos 0)) ≡ true = subst (λ (y : ℤ). not (int_eq y (pos 0)) ≡ true) e h in absurd cc)

zero_not : (z : ℤ) → z ≢ pos 0 → not (int_eq z (pos 0)) ≡ true
zero_not z h = grind (arith, ints)

pub canonical_is : (xs : List (ℕ × ℤ)) → is_canonical xs ≡ true → IsCanonical xs
canonical_is [] h = tt
canonical_is (x ∷ xs) h = parts (not (int_eq x.1 (pos 0))) (list_all (λ y. nat_lt x.0 y.0) xs) refl refl (λ k. canonical_is xs k) h
  where
    parts : (a b : Bool) → not (int_eq x.1 (pos 0)) ≡ a → list_all (λ y. nat_lt x.0 y.0) xs ≡ b → (is_canonical xs ≡ true → IsCanonical xs) → a && (b && is_canonical xs) ≡ true → IsCanonical (x ∷ xs)
    parts false b p q go k = absurd cc
    parts true false p q go k = absurd cc
    parts true true p q go k = (not_zero x.1 p, all_above x.0 xs q, go k)

pub is_canonical_of : (xs : List (ℕ × ℤ)) → IsCanonical xs → is_canonical xs ≡ true
is_canonical_of [] h = refl
is_canonical_of (x ∷ xs) h = rw (zero_not x.1 h.0, above_all x.0 xs h.1, is_canonical_of xs h.2) refl

pub not_canonical : (xs : List (ℕ × ℤ)) → ¬ (IsCanonical xs) → is_canonical xs ≡ false
not_canonical xs h = by_test (is_canonical xs) refl
  where
    by_test : (b : Bool) → is_canonical xs ≡ b → b ≡ false
    by_test false e = refl
    by_test true e = absurd (h (canonical_is xs e))

pub row_made : (m : Row) (k : ℤ) (ps : List (ℕ × ℤ)) → m.pairs ≡ ps → m.constant ≡ k → IsCanonical ps → Some m ≡ if_canonical (Some (made_row k ps))
row_made m k ps e f h =
    let row : m ≡ made_row k ps = ap (λ (qs : List (ℕ × ℤ)). made_row m.constant qs) e ∙ ap (λ (j : ℤ). made_row j ps) f in
    ap (λ (r : Row). Some r) row ∙ sym (ap (λ b. cond b (Some (made_row k ps)) None) (is_canonical_of ps h))

-- ---- the last row

pub last_is : (rows : List Row) (d : Row) → 1 ≤ length rows → last_row rows ≡ Some (get_or rows (length rows - 1) d)
last_is [] d h = absurd (omega arith)
last_is (r ∷ []) d h = refl
last_is (r ∷ (s ∷ rs)) d h =
    let low : suc (length rs) - 1 ≡ length rs = omega arith in
    let high : suc (length rs) ≡ suc (suc (length rs)) - 1 = omega arith in
    last_is (s ∷ rs) d (omega arith) ∙ ap (λ (x : Row). Some x) (ap (λ n. get_or (s ∷ rs) n d) low ∙ ap (λ n. get_or (r ∷ (s ∷ rs)) n d) high)

pub last_push : (rows : List Row) (r : Row) → last_row (rows ++ r ∷ []) ≡ Some r
last_push [] r = refl
last_push (x ∷ []) r = refl
last_push (x ∷ (y ∷ ys)) r = last_push (y ∷ ys) r
