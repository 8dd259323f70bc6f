-- Lists of pairs by their coefficients: sums, multiples, and what coefficients settle.
use Rattle.std.proofs.Common.{◌≡◌, ◌≢◌, ℕ, ◌<◌, ◌≤◌, ◌+◌, ℤ, pos, ◌+ℤ◌, ◌*ℤ◌, List, [], ◌∷◌, ◌++◌, Bool, true, false, refl, sym, ◌∙◌, ap, arith, nat_eq, zero, suc, eqb-true, eq-eqb, length, slice_index_or, unsigned_abs, subst, if◌then◌else◌}
use Rattle.std.proofs.lemmas.Int.{ints}
use Rattle.std.proofs.lemmas.Bool.{eqb-false}
use Rattle.std.specs.List.{All}
use Rattle.std.proofs.lemmas.List.Elements.{All-head, All-tail, All-cons, All-append, All-weaker, All-nil}
use Rattle.cv_num.specs.Pairs.{IsCanonical, coefficient_of, sum_at, scaled}
use Rattle.std.proofs.Math.IntN.{*ℤ-zero, zero-*ℤ}
use Rattle.cv_num.specs.Whole.{*ℤ-+ℤ, +ℤ-*ℤ, *ℤ_assoc}

pub coefficient_of-append : (xs ys : List (ℕ × ℤ)) (v : ℕ) → coefficient_of (xs ++ ys) v ≡ coefficient_of xs v +ℤ coefficient_of ys v
coefficient_of-append [] ys v = omega (arith, ints)
coefficient_of-append (x ∷ xs) ys v = omega (arith, ints, coefficient_of-append xs ys v)

pub sum_at-append : (p : ℕ → ℤ) (xs ys : List (ℕ × ℤ)) → sum_at p (xs ++ ys) ≡ sum_at p xs +ℤ sum_at p ys
sum_at-append p [] ys = omega (arith, ints)
sum_at-append p (x ∷ xs) ys = omega (arith, ints, sum_at-append p xs ys)

-- ---- canonical lists
pub canonical-tail : (d : List (ℕ × ℤ)) (x : ℕ × ℤ) (r : List (ℕ × ℤ)) → IsCanonical (d ++ x ∷ r) → IsCanonical (x ∷ r)
canonical-tail [] x r h = h
canonical-tail (y ∷ d) x r h = canonical-tail d x r h.2

-- nothing below the first has the variable
pub coefficient_of-above : (v : ℕ) (xs : List (ℕ × ℤ)) → All (λ y. v < y.0) xs → coefficient_of xs v ≡ pos 0
coefficient_of-above v [] h = refl
coefficient_of-above v (x ∷ xs) h = grind (arith, ints, All-head (λ y. v < y.0) x xs h, coefficient_of-above v xs (All-tail (λ y. v < y.0) x xs h))

pub All-after : (P : ℕ × ℤ → Type 0) (d : List (ℕ × ℤ)) (r : List (ℕ × ℤ)) → All P (d ++ r) → All P r
All-after P [] r h = h
All-after P (y ∷ d) r h = All-after P d r (All-tail P y (d ++ r) h)

pub coefficient_of-before : (d : List (ℕ × ℤ)) (x : ℕ × ℤ) (r : List (ℕ × ℤ)) → IsCanonical (d ++ x ∷ r) → coefficient_of d x.0 ≡ pos 0
coefficient_of-before [] x r h = refl
coefficient_of-before (y ∷ d) x r h =
    let below : y.0 < x.0 = All-head (λ z. y.0 < z.0) x r (All-after (λ z. y.0 < z.0) d (x ∷ r) h.1) in
    grind (arith, ints, below, coefficient_of-before d x r h.2)

pub All-front : (P : ℕ × ℤ → Type 0) (d : List (ℕ × ℤ)) (r : List (ℕ × ℤ)) → All P (d ++ r) → All P d
All-front P [] r h = All-nil P
All-front P (y ∷ d) r h = All-cons P y d (All-head P y (d ++ r) h) (All-front P d r (All-tail P y (d ++ r) h))

All-skip : (P : ℕ × ℤ → Type 0) (d : List (ℕ × ℤ)) (x : ℕ × ℤ) (r : List (ℕ × ℤ)) → All P (d ++ x ∷ r) → All P (d ++ r)
All-skip P d x r h = All-append P d r (All-front P d (x ∷ r) h) (All-tail P x r (All-after P d (x ∷ r) h))

-- a pair that comes to 0 is left out
pub canonical-skip : (d : List (ℕ × ℤ)) (x : ℕ × ℤ) (r : List (ℕ × ℤ)) → IsCanonical (d ++ x ∷ r) → IsCanonical (d ++ r)
canonical-skip [] x r h = h.2
canonical-skip (y ∷ d) x r h = (h.0, All-skip (λ z. y.0 < z.0) d x r h.1, canonical-skip d x r h.2)

-- what stands before a pair is below it
pub below_pair : (d : List (ℕ × ℤ)) (x : ℕ × ℤ) (r : List (ℕ × ℤ)) → IsCanonical (d ++ x ∷ r) → All (λ y. y.0 < x.0) d
below_pair [] x r h = All-nil (λ y. y.0 < x.0)
below_pair (y ∷ d) x r h =
    All-cons (λ z. z.0 < x.0) y d (All-head (λ z. y.0 < z.0) x r (All-after (λ z. y.0 < z.0) d (x ∷ r) h.1)) (below_pair d x r h.2)

-- a pair between what is below it and what is above it
pub canonical-push : (d s : List (ℕ × ℤ)) (v : ℕ) (c : ℤ) → All (λ y. y.0 < v) d → IsCanonical (d ++ s) → All (λ y. v < y.0) s → c ≢ pos 0 → IsCanonical ((d ++ (v, c) ∷ []) ++ s)
canonical-push [] s v c below k above nonzero = (nonzero, above, k)
canonical-push (y ∷ d) s v c below k above nonzero =
    let in_d : All (λ z. y.0 < z.0) d = All-front (λ z. y.0 < z.0) d s k.1 in
    let in_s : All (λ z. y.0 < z.0) s = All-after (λ z. y.0 < z.0) d s k.1 in (
      k.0,
      All-append (λ z. y.0 < z.0) (d ++ (v, c) ∷ []) s
          (All-append (λ z. y.0 < z.0) d ((v, c) ∷ []) in_d (All-cons (λ z. y.0 < z.0) (v, c) [] (All-head (λ z. z.0 < v) y d below) (All-nil (λ z. y.0 < z.0)))) in_s,
      canonical-push d s v c (All-tail (λ z. z.0 < v) y d below) k.2 above nonzero,
    )

-- no pair below v has v
pub coefficient_of-below : (v : ℕ) (xs : List (ℕ × ℤ)) → All (λ y. y.0 < v) xs → coefficient_of xs v ≡ pos 0
coefficient_of-below v [] h = refl
coefficient_of-below v (x ∷ xs) h = grind (arith, ints, All-head (λ y. y.0 < v) x xs h, coefficient_of-below v xs (All-tail (λ y. y.0 < v) x xs h))

-- ---- lists with equal coefficients have equal sums at each point
-- the sum of f over the variables below n
abbrev sum_below : ℕ → (ℕ → ℤ) → ℤ
sum_below zero f = pos 0
sum_below (suc n) f = sum_below n f +ℤ f n

sum_below-add : (n : ℕ) (f g h : ℕ → ℤ) → ((u : ℕ) → h u ≡ f u +ℤ g u) → sum_below n h ≡ sum_below n f +ℤ sum_below n g
sum_below-add zero f g h e = refl
sum_below-add (suc n) f g h e = omega (arith, ints, sum_below-add n f g h e, e n)

sum_below-same : (n : ℕ) (f g : ℕ → ℤ) → ((u : ℕ) → f u ≡ g u) → sum_below n f ≡ sum_below n g
sum_below-same zero f g e = refl
sum_below-same (suc n) f g e = omega (arith, ints, sum_below-same n f g e, e n)

sum_below-zero : (n : ℕ) (f : ℕ → ℤ) → ((u : ℕ) → u < n → f u ≡ pos 0) → sum_below n f ≡ pos 0
sum_below-zero zero f e = refl
sum_below-zero (suc n) f e = omega (arith, ints, sum_below-zero n f (λ u h. e u (omega arith)), e n (omega arith))

-- a function that is 0 but at v
sum_below-one : (n : ℕ) (f : ℕ → ℤ) (v : ℕ) → v < n → ((u : ℕ) → u ≢ v → f u ≡ pos 0) → sum_below n f ≡ f v
sum_below-one zero f v h e = absurd (omega arith)
sum_below-one (suc n) f v h e = at_top (nat_eq n v) refl (λ l. sum_below-one n f v l e)
  where
    at_top : (t : Bool) → nat_eq n v ≡ t → (v < n → sum_below n f ≡ f v) → sum_below n f +ℤ f n ≡ f v
    at_top true q below = let same : n ≡ v = eqb-true n v q in omega (arith, ints, ap f same, sum_below-zero n f (λ u l. e u (λ w. absurd (omega arith))))
    at_top false q below = let apart : n ≢ v = eqb-false n v q in omega (arith, ints, below (omega arith), e n apart)

-- above the variables of a list
abbrev bound : List (ℕ × ℤ) → ℕ
bound [] = 0
bound (x ∷ xs) = x.0 + 1 + bound xs

sum_at-below : (p : ℕ → ℤ) (n : ℕ) (xs : List (ℕ × ℤ)) → bound xs ≤ n → sum_at p xs ≡ sum_below n (λ u. coefficient_of xs u *ℤ p u)
sum_at-below p n [] h = sym (sum_below-zero n (λ u. pos 0 *ℤ p u) (λ u l. zero-*ℤ (p u)))
sum_at-below p n (x ∷ xs) h =
    let f : ℕ → ℤ = λ u. (if nat_eq x.0 u then x.1 else pos 0) *ℤ p u in
    let g : ℕ → ℤ = λ u. coefficient_of xs u *ℤ p u in
    let rest : sum_at p xs ≡ sum_below n g = sum_at-below p n xs (omega arith) in
    let one : sum_below n f ≡ f x.0 = sum_below-one n f x.0 (omega arith) (λ u apart. none u (nat_eq x.0 u) refl apart) in
    let here : f x.0 ≡ x.1 *ℤ p x.0 = at_x (nat_eq x.0 x.0) (eq-eqb x.0 x.0 refl) in
    let both : sum_below n (λ u. coefficient_of (x ∷ xs) u *ℤ p u) ≡ sum_below n f +ℤ sum_below n g =
    sum_below-add n f g (λ u. coefficient_of (x ∷ xs) u *ℤ p u) (λ u. +ℤ-*ℤ (if nat_eq x.0 u then x.1 else pos 0) (coefficient_of xs u) (p u)) in
    rw (both, one, here, ← rest) refl
  where
    none : (u : ℕ) (t : Bool) → nat_eq x.0 u ≡ t → u ≢ x.0 → (if t then x.1 else pos 0) *ℤ p u ≡ pos 0
    none u true q apart = absurd (apart (sym (eqb-true x.0 u q)))
    none u false q apart = zero-*ℤ (p u)

    at_x : (t : Bool) → t ≡ true → (if t then x.1 else pos 0) *ℤ p x.0 ≡ x.1 *ℤ p x.0
    at_x true q = refl
    at_x false q = cc

pub same_sums : (p : ℕ → ℤ) (xs ys : List (ℕ × ℤ)) → ((u : ℕ) → coefficient_of xs u ≡ coefficient_of ys u) → sum_at p xs ≡ sum_at p ys
same_sums p xs ys e =
    let n : ℕ = bound xs + bound ys in
    sum_at-below p n xs (omega arith)
    ∙ (sum_below-same n (λ u. coefficient_of xs u *ℤ p u) (λ u. coefficient_of ys u *ℤ p u) (λ u. ap (λ (z : ℤ). z *ℤ p u) (e u))
    ∙ sym (sum_at-below p n ys (omega arith)))

-- ---- a multiple of a list
pub coefficient_of-scaled : (k : ℤ) (xs : List (ℕ × ℤ)) (u : ℕ) → coefficient_of (scaled k xs) u ≡ k *ℤ coefficient_of xs u
coefficient_of-scaled k [] u = sym (*ℤ-zero k)
coefficient_of-scaled k (x ∷ xs) u = at (nat_eq x.0 u) (coefficient_of-scaled k xs u)
  where
    at : (t : Bool) → coefficient_of (scaled k xs) u ≡ k *ℤ coefficient_of xs u → (if t then k *ℤ x.1 else pos 0) +ℤ coefficient_of (scaled k xs) u ≡ k *ℤ ((if t then x.1 else pos 0) +ℤ coefficient_of xs u)
    at true rest = rw (*ℤ-+ℤ k x.1 (coefficient_of xs u), rest) refl
    at false rest = rw (*ℤ-+ℤ k (pos 0) (coefficient_of xs u), rest, *ℤ-zero k) refl

pub sum_at-scaled : (p : ℕ → ℤ) (k : ℤ) (xs : List (ℕ × ℤ)) → sum_at p (scaled k xs) ≡ k *ℤ sum_at p xs
sum_at-scaled p k [] = sym (*ℤ-zero k)
sum_at-scaled p k (x ∷ xs) = rw (*ℤ-+ℤ k (x.1 *ℤ p x.0) (sum_at p xs), sum_at-scaled p k xs, *ℤ_assoc k x.1 (p x.0)) refl

-- the sum of two lists, at a point
pub sum_at-combined : (p : ℕ → ℤ) (k : ℤ) (a b r : List (ℕ × ℤ)) → ((u : ℕ) → coefficient_of r u ≡ coefficient_of a u +ℤ k *ℤ coefficient_of b u) → sum_at p r ≡ sum_at p a +ℤ k *ℤ sum_at p b
sum_at-combined p k a b r e =
    same_sums p r (a ++ scaled k b) (λ u. e u ∙ sym (coefficient_of-append a (scaled k b) u ∙ ap (λ (z : ℤ). coefficient_of a u +ℤ z) (coefficient_of-scaled k b u)))
    ∙ (sum_at-append p a (scaled k b) ∙ ap (λ (z : ℤ). sum_at p a +ℤ z) (sum_at-scaled p k b))

-- ---- a canonical list is settled by its coefficients
pub coefficient_of-head : (x : ℕ × ℤ) (xs : List (ℕ × ℤ)) → IsCanonical (x ∷ xs) → coefficient_of (x ∷ xs) x.0 ≡ x.1
coefficient_of-head x xs h = at (nat_eq x.0 x.0) (eq-eqb x.0 x.0 refl) (coefficient_of-above x.0 xs h.1)
  where
    at : (t : Bool) → t ≡ true → coefficient_of xs x.0 ≡ pos 0 → (if t then x.1 else pos 0) +ℤ coefficient_of xs x.0 ≡ x.1
    at true q z = omega (arith, ints)
    at false q z = cc

pub coefficient_of-under : (v : ℕ) (x : ℕ × ℤ) (xs : List (ℕ × ℤ)) → IsCanonical (x ∷ xs) → v < x.0 → coefficient_of (x ∷ xs) v ≡ pos 0
coefficient_of-under v x xs h l =
    coefficient_of-above v (x ∷ xs) (All-cons (λ y. v < y.0) x xs l (All-weaker (λ y. x.0 < y.0) (λ y. v < y.0) (λ y m. omega arith) xs h.1))

pair_same : (x y : ℕ × ℤ) → x.0 ≡ y.0 → x.1 ≡ y.1 → x ≡ y
pair_same x y e f = let P : ℕ → ℤ → ℕ × ℤ = λ a b. (a, b) in ap (λ (a : ℕ). P a x.1) e ∙ ap (λ (b : ℤ). P y.0 b) f

-- canonical lists with equal coefficients are equal
pub same_canonical : (xs ys : List (ℕ × ℤ)) → IsCanonical xs → IsCanonical ys → ((u : ℕ) → coefficient_of xs u ≡ coefficient_of ys u) → xs ≡ ys
same_canonical [] [] h k e = refl
same_canonical [] (y ∷ ys) h k e = absurd (k.0 (sym (coefficient_of-head y ys k) ∙ sym (e y.0)))
same_canonical (x ∷ xs) [] h k e = absurd (h.0 (sym (coefficient_of-head x xs h) ∙ e x.0))
same_canonical (x ∷ xs) (y ∷ ys) h k e =
    let not_below : ¬ (x.0 < y.0) = λ l. h.0 (sym (coefficient_of-head x xs h) ∙ (e x.0 ∙ coefficient_of-under x.0 y ys k l)) in
    let not_above : ¬ (y.0 < x.0) = λ l. k.0 (sym (coefficient_of-head y ys k) ∙ (sym (e y.0) ∙ coefficient_of-under y.0 x xs h l)) in
    let same_variable : x.0 ≡ y.0 = omega arith in
    let same_coefficient : x.1 ≡ y.1 = sym (coefficient_of-head x xs h) ∙ (e x.0 ∙ (ap (λ (v : ℕ). coefficient_of (y ∷ ys) v) same_variable ∙ coefficient_of-head y ys k)) in
    let same_head : x ≡ y = pair_same x y same_variable same_coefficient in
    let rest : xs ≡ ys = same_canonical xs ys h.2 k.2 (λ u. cancel (if nat_eq x.0 u then x.1 else pos 0) (coefficient_of xs u) (coefficient_of ys u) (e u ∙ ap (λ (z : ℕ × ℤ). coefficient_of (z ∷ ys) u) (sym same_head))) in
    ap (λ (z : ℕ × ℤ). z ∷ xs) same_head ∙ ap (λ (zs : List (ℕ × ℤ)). y ∷ zs) rest
  where
    cancel : (a b c : ℤ) → a +ℤ b ≡ a +ℤ c → b ≡ c
    cancel a b c e = omega (arith, ints)

-- ---- the first pair of a list that has one
pub at_first : (xs : List (ℕ × ℤ)) (v : ℕ) → 1 ≤ length xs → IsCanonical xs → (slice_index_or xs 0 (0, pos 0)).0 ≡ v → (slice_index_or xs 0 (0, pos 0)).1 ≡ coefficient_of xs v
at_first [] v l h e = absurd (omega arith)
at_first (x ∷ xs) v l h e = sym (ap (λ (u : ℕ). coefficient_of (x ∷ xs) u) (sym e) ∙ coefficient_of-head x xs h)

pub under_first : (xs : List (ℕ × ℤ)) (v : ℕ) → 1 ≤ length xs → IsCanonical xs → v < (slice_index_or xs 0 (0, pos 0)).0 → coefficient_of xs v ≡ pos 0
under_first [] v l h b = absurd (omega arith)
under_first (x ∷ xs) v l h b = coefficient_of-under v x xs h b

-- ---- sizes
pub coefficient_of-size : (m : ℕ) (xs : List (ℕ × ℤ)) (v : ℕ) → IsCanonical xs → All (λ p. unsigned_abs p.1 ≤ m) xs → unsigned_abs (coefficient_of xs v) ≤ m
coefficient_of-size m [] v h a = omega arith
coefficient_of-size m (x ∷ xs) v h a =
    at (nat_eq x.0 v) refl (coefficient_of-size m xs v h.2 (All-tail (λ p. unsigned_abs p.1 ≤ m) x xs a)) (λ e. coefficient_of-above v xs (let P : ℕ → Type 0 = λ w. All (λ y. w < y.0) xs in subst P e h.1))
  where
    at : (t : Bool) → nat_eq x.0 v ≡ t → unsigned_abs (coefficient_of xs v) ≤ m → (x.0 ≡ v → coefficient_of xs v ≡ pos 0) → unsigned_abs ((if t then x.1 else pos 0) +ℤ coefficient_of xs v) ≤ m
    at true q r z = let e : x.1 +ℤ coefficient_of xs v ≡ x.1 = omega (arith, ints, z (eqb-true x.0 v q)) in rw e (All-head (λ p. unsigned_abs p.1 ≤ m) x xs a)
    at false q r z = let e : pos 0 +ℤ coefficient_of xs v ≡ coefficient_of xs v = omega (arith, ints) in rw e r
