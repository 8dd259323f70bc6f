-- The union of two sets: what it has, that it is ascending, and how long it is.
use Rattle.std.proofs.Common.{refl, ℕ, zero, suc, ◌≡◌, ◌<◌, ◌≤◌, ◌+◌, Bool, true, false, List, [], ◌∷◌, ◌++◌, length, subst, sym, arith, if◌then◌else◌, nat_lt, not, inl, inr}
use Rattle.std.specs.List.{Contains}
use Rattle.std.proofs.lemmas.Bool.{cases_lt}
use Rattle.std.proofs.lemmas.List.{length-append}
use borrow.Author.Tests.{ltb-true, ltb-false}
use Rattle.cv_points.specs.Closed.{IsSubset}
use Rattle.cv_points.specs.Least.{IsAscendingFrom}
use Rattle.cv_points.specs.Merge.{above, below, is_merged, is_next, merge}

pub here : (x : ℕ) (xs : List ℕ) → Contains (x ∷ xs) x
here x xs = (0, omega arith, refl)

pub later : (t : ℕ) (ts : List ℕ) (x : ℕ) → Contains ts x → Contains (t ∷ ts) x
later t ts x (k, lt, e) = (suc k, omega arith, e)

pub cons_cases : (P : ℕ → Type 0) (t : ℕ) (ts : List ℕ) → P t → ((x : ℕ) → Contains ts x → P x) → (x : ℕ) → Contains (t ∷ ts) x → P x
cons_cases P t ts first rest x (zero, lt, e) = subst P e first
cons_cases P t ts first rest x (suc k, lt, e) = rest x (k, omega arith, e)

pub none : (P : ℕ → Type 0) (x : ℕ) → Contains [] x → P x
none P x (k, lt, e) = absurd (omega arith)

-- the two ways of a test
decided : {X : Type 0} (P : X → Type 0) (s t : ℕ) (x y : X) → (s < t → P x) → (t ≤ s → P y) → P (if nat_lt s t then x else y)
decided P s t x y p q = elim (cases_lt s t) [
  | inl lt ↦ let e : nat_lt s t ≡ true = grind (arith, ltb-true) in subst (λ b. P (if b then x else y)) (sym e) (p lt)
  | inr ge ↦ let e : nat_lt s t ≡ false = grind (arith, ltb-false) in subst (λ b. P (if b then x else y)) (sym e) (q ge)
]

-- ---- what the union has

-- the sites below x, x, and others
all_joined : (P : ℕ → Type 0) (x : ℕ) (ys zs : List ℕ) → ((s : ℕ) → Contains ys s → P s) → ((s : ℕ) → Contains (x ∷ zs) s → P s) → (s : ℕ) → Contains (below x ys ++ x ∷ zs) s → P s
all_joined P x [] zs left right = right
all_joined P x (y ∷ ys) zs left right =
    decided (λ bs. (s : ℕ) → Contains (bs ++ x ∷ zs) s → P s) y x (y ∷ below x ys) []
    (λ lt. cons_cases P y (below x ys ++ x ∷ zs) (left y (here y ys)) (all_joined P x ys zs (λ s c. left s (later y ys s c)) right))
    (λ ge. right)

all_above : (P : ℕ → Type 0) (x : ℕ) (ys : List ℕ) → ((s : ℕ) → Contains ys s → P s) → (s : ℕ) → Contains (above x ys) s → P s
all_above P x [] h = h
all_above P x (y ∷ ys) h =
    decided (λ bs. (s : ℕ) → Contains bs s → P s) y x (above x ys) (if nat_lt x y then y ∷ ys else ys)
    (λ lt. all_above P x ys (λ s c. h s (later y ys s c)))
    (λ ge. decided (λ bs. (s : ℕ) → Contains bs s → P s) x y (y ∷ ys) ys (λ lt. h) (λ le s c. h s (later y ys s c)))

-- the union has only sites of the two sets
pub all_merged : (P : ℕ → Type 0) (xs ys : List ℕ) → ((s : ℕ) → Contains xs s → P s) → ((s : ℕ) → Contains ys s → P s) → (s : ℕ) → Contains (merge xs ys) s → P s
all_merged P [] ys left right = right
all_merged P (x ∷ xs) ys left right =
    all_joined P x ys (merge xs (above x ys)) right
    (cons_cases P x (merge xs (above x ys)) (left x (here x xs)) (all_merged P xs (above x ys) (λ s c. left s (later x xs s c)) (all_above P x ys right)))

-- ---- ascending

ascending_above : (x low : ℕ) (ys : List ℕ) → IsAscendingFrom low ys → IsAscendingFrom (suc x) (above x ys)
ascending_above x low [] h = tt
ascending_above x low (y ∷ ys) h =
    decided (IsAscendingFrom (suc x)) y x (above x ys) (if nat_lt x y then y ∷ ys else ys)
    (λ lt. ascending_above x (suc y) ys h.1)
    (λ ge. decided (IsAscendingFrom (suc x)) x y (y ∷ ys) ys
    (λ lt. (omega arith, h.1))
    (λ le. let e : y ≡ x = omega arith in subst (λ n. IsAscendingFrom (suc n) ys) e h.1))

ascending_joined : (x low : ℕ) (ys zs : List ℕ) → low ≤ x → IsAscendingFrom low ys → IsAscendingFrom (suc x) zs → IsAscendingFrom low (below x ys ++ x ∷ zs)
ascending_joined x low [] zs le h k = (le, k)
ascending_joined x low (y ∷ ys) zs le h k =
    decided (λ bs. IsAscendingFrom low (bs ++ x ∷ zs)) y x (y ∷ below x ys) []
    (λ lt. (h.0, ascending_joined x (suc y) ys zs (omega arith) h.1 k))
    (λ ge. (le, k))

pub ascending_merged : (low : ℕ) (xs ys : List ℕ) → IsAscendingFrom low xs → IsAscendingFrom low ys → IsAscendingFrom low (merge xs ys)
ascending_merged low [] ys h k = k
ascending_merged low (x ∷ xs) ys h k =
    ascending_joined x low ys (merge xs (above x ys)) h.0 k (ascending_merged (suc x) xs (above x ys) h.1 (ascending_above x low ys k))

-- an ascending list of numbers below a limit is no longer than the limit
pub ascending_short : (low limit : ℕ) (xs : List ℕ) → IsAscendingFrom low xs → ((s : ℕ) → Contains xs s → s < limit) → low ≤ limit → low + length xs ≤ limit
ascending_short low limit [] h small le = omega arith
ascending_short low limit (x ∷ xs) h small le =
    let top : x < limit = small x (here x xs) in
    let more : suc x + length xs ≤ limit = ascending_short (suc x) limit xs h.1 (λ s c. small s (later x xs s c)) (omega arith) in
    let first : low ≤ x = h.0 in
    omega arith

-- ---- its length

-- the sites below x and above x are all, or all but x
abbrev one_if : Bool → ℕ
one_if true = 1
one_if false = 0

long_if : (b : Bool) (y : ℕ) (ys : List ℕ) → length (if b then y ∷ ys else ys) + one_if (not b) ≡ suc (length ys)
long_if true y ys = omega arith
long_if false y ys = omega arith

parts : (x : ℕ) (ys : List ℕ) → length (below x ys) + length (above x ys) + one_if (is_next x ys) ≡ length ys
parts x [] = refl
parts x (y ∷ ys) = elim (cases_lt y x) [
  | inl lt ↦
      let e : nat_lt y x ≡ true = grind (arith, ltb-true) in
      let P : Bool → Type 0 = λ b. length (if b then y ∷ below x ys else []) + length (if b then above x ys else if nat_lt x y then y ∷ ys else ys) + one_if (if b then is_next x ys else not (nat_lt x y)) ≡ suc (length ys) in
      let k = parts x ys in
      subst P (sym e) (omega arith)
  | inr ge ↦
      let e : nat_lt y x ≡ false = grind (arith, ltb-false) in
      let P : Bool → Type 0 = λ b. length (if b then y ∷ below x ys else []) + length (if b then above x ys else if nat_lt x y then y ∷ ys else ys) + one_if (if b then is_next x ys else not (nat_lt x y)) ≡ suc (length ys) in
      let k = long_if (nat_lt x y) y ys in
      subst P (sym e) (omega arith)
]

joined_length : (x : ℕ) (bs ms : List ℕ) → length (bs ++ x ∷ ms) ≡ length bs + suc (length ms)
joined_length x bs ms = length-append bs (x ∷ ms)

kept_cases : (c : Bool) (n b a m : ℕ) → b + a + one_if c ≡ n → a ≤ m → n ≤ b + suc m
kept_cases true n b a m e le = omega arith
kept_cases false n b a m e le = omega arith

length_kept : (xs ys : List ℕ) → length ys ≤ length (merge xs ys)
length_kept [] ys = omega arith
length_kept (x ∷ xs) ys =
    subst (λ n. length ys ≤ n) (sym (joined_length x (below x ys) (merge xs (above x ys))))
    (kept_cases (is_next x ys) (length ys) (length (below x ys)) (length (above x ys)) (length (merge xs (above x ys))) (parts x ys) (length_kept xs (above x ys)))

more_cases : (c inner : Bool) (n b a m : ℕ) → b + a + one_if c ≡ n → a ≤ m → (if c then inner else false) ≡ false → (inner ≡ false → a < m) → n < b + suc m
more_cases true inner n b a m e le f lt = let k : a < m = lt f in omega arith
more_cases false inner n b a m e le f lt = omega arith

-- where the union isn't the second set, it is longer
pub length_more : (xs ys : List ℕ) → is_merged xs ys ≡ false → length ys < length (merge xs ys)
length_more [] ys e = absurd (cc)
length_more (x ∷ xs) ys e =
    subst (λ n. length ys < n) (sym (joined_length x (below x ys) (merge xs (above x ys))))
    (more_cases (is_next x ys) (is_merged xs (above x ys)) (length ys) (length (below x ys)) (length (above x ys)) (length (merge xs (above x ys))) (parts x ys) (length_kept xs (above x ys)) e (length_more xs (above x ys)))

-- ---- where the union is the second set

next_there : (x : ℕ) (ys : List ℕ) → is_next x ys ≡ true → Contains ys x
next_there x [] e = absurd (cc)
next_there x (y ∷ ys) e = elim (cases_lt y x) [
  | inl lt ↦
      let f : nat_lt y x ≡ true = grind (arith, ltb-true) in
      let g : (if true then is_next x ys else not (nat_lt x y)) ≡ true = subst (λ b. (if b then is_next x ys else not (nat_lt x y)) ≡ true) f e in
      later y ys x (next_there x ys g)
  | inr ge ↦
      let f : nat_lt y x ≡ false = grind (arith, ltb-false) in
      let g : not (nat_lt x y) ≡ true = subst (λ b. (if b then is_next x ys else not (nat_lt x y)) ≡ true) f e in
      elim (cases_lt x y) [
        | inl lt ↦ let h : nat_lt x y ≡ true = grind (arith, ltb-true) in let k : not true ≡ true = subst (λ b. not b ≡ true) h g in absurd (cc)
        | inr le ↦ let same : y ≡ x = omega arith in subst (λ n. Contains (y ∷ ys) n) same (here y ys)
      ]
]

both_true : (c inner : Bool) → (if c then inner else false) ≡ true → (c ≡ true) × (inner ≡ true)
both_true true inner e = (refl, e)
both_true false inner e = absurd (cc)

pub merged_subset : (xs ys : List ℕ) → is_merged xs ys ≡ true → IsSubset xs ys
merged_subset [] ys e = none (Contains ys)
merged_subset (x ∷ xs) ys e =
    let k = both_true (is_next x ys) (is_merged xs (above x ys)) e in
    cons_cases (Contains ys) x xs (next_there x ys k.0)
    (λ s c. all_above (Contains ys) x ys (λ t h. h) s (merged_subset xs (above x ys) k.1 s c))
