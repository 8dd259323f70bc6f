-- An ascending set with one more code: what it has, that it is ascending, and how long it is.
use Rattle.std.proofs.Common.{refl, ℤ, suc, pos, negsuc, ◌≡◌, ◌≤◌, ◌^◌, ◌<ℤ◌, ◌≤ℤ◌, ◌+ℤ◌, true, false, List, [], ◌∷◌, length, subst, sym, arith, if◌then◌else◌, FitsSigned, int_lt, w32}
use Rattle.std.specs.List.{Contains}
use Rattle.std.proofs.lemmas.Int.{by_lt_z, ints}
use Rattle.cv_ppts.specs.Growing.{inserted}
use Rattle.cv_ppts.specs.Targets.{IsAscending, IsAscendingFrom}
use Rattle.cv_ppts.proofs.Lacked.{each_more, in_first, in_later}

-- the two ways of a test
decided : {X : Type 0} (P : X → Type 0) (c d : ℤ) (x y : X) → (c <ℤ d → P x) → (d ≤ℤ c → P y) → P (if int_lt c d then x else y)
decided P c d x y p q = by_lt_z c d
    (λ lt. let e : int_lt c d ≡ true = grind (arith, ints) in subst (λ b. P (if b then x else y)) (sym e) (p lt))
    (λ ge. let e : int_lt c d ≡ false = grind (arith, ints) in subst (λ b. P (if b then x else y)) (sym e) (q ge))

pub all_inserted : (P : ℤ → Type 0) (c : ℤ) (ds : List ℤ) → P c → ((x : ℤ) → Contains ds x → P x) → (x : ℤ) → Contains (inserted c ds) x → P x
all_inserted P c [] here others = each_more P c [] here others
all_inserted P c (d ∷ ds) here others =
    decided (λ es. (x : ℤ) → Contains es x → P x) c d (c ∷ d ∷ ds) (d ∷ inserted c ds)
    (λ lt. each_more P c (d ∷ ds) here others)
    (λ ge. each_more P d (inserted c ds) (others d (in_first d ds)) (all_inserted P c ds here (λ x m. others x (in_later d x ds m))))

pub long_inserted : (c : ℤ) (ds : List ℤ) → length (inserted c ds) ≡ suc (length ds)
long_inserted c [] = refl
long_inserted c (d ∷ ds) =
    decided (λ es. length es ≡ suc (suc (length ds))) c d (c ∷ d ∷ ds) (d ∷ inserted c ds) (λ lt. refl)
    (λ ge. let k = long_inserted c ds in omega arith)

-- ---- ascending

apart : (c d : ℤ) (ds : List ℤ) → d ≤ℤ c → (Contains (d ∷ ds) c → ⊥) → d <ℤ c
apart c d ds ge lacks = by_lt_z d c (λ lt. lt) (λ le. let e : d ≡ c = omega (arith, ints) in absurd (lacks (subst (λ x. Contains (d ∷ ds) x) e (in_first d ds))))

ascending_behind : (low c : ℤ) (ds : List ℤ) → low <ℤ c → IsAscendingFrom low ds → (Contains ds c → ⊥) → IsAscendingFrom low (inserted c ds)
ascending_behind low c [] lt h lacks = (lt, tt)
ascending_behind low c (d ∷ ds) above h lacks =
    decided (IsAscendingFrom low) c d (c ∷ d ∷ ds) (d ∷ inserted c ds)
    (λ lt. (above, (lt, h.1)))
    (λ ge. (h.0, ascending_behind d c ds (apart c d ds ge lacks) h.1 (λ m. lacks (in_later d c ds m))))

pub ascending_inserted : (c : ℤ) (ds : List ℤ) → IsAscending ds → (Contains ds c → ⊥) → IsAscending (inserted c ds)
ascending_inserted c [] h lacks = tt
ascending_inserted c (d ∷ ds) h lacks =
    decided IsAscending c d (c ∷ d ∷ ds) (d ∷ inserted c ds)
    (λ lt. (lt, h))
    (λ ge. ascending_behind d c ds (apart c d ds ge lacks) h (λ m. lacks (in_later d c ds m)))

-- ---- ascending sets are short

above_low : (low top : ℤ) (ds : List ℤ) → IsAscendingFrom low ds → ((x : ℤ) → Contains ds x → x <ℤ top) → low <ℤ top → (pos (length ds) +ℤ low) <ℤ top
above_low low top [] h small lt = omega (arith, ints)
above_low low top (d ∷ ds) h small lt =
    let first : low <ℤ d = h.0 in
    let more : (pos (length ds) +ℤ d) <ℤ top = above_low d top ds h.1 (λ x m. small x (in_later d x ds m)) (small d (in_first d ds)) in
    omega (arith, ints)

fits_below : (z : ℤ) → FitsSigned w32 z → z <ℤ pos (2 ^ 31)
fits_below (pos n) f = omega (arith, ints)
fits_below (negsuc n) f = omega (arith, ints)

fits_above : (z : ℤ) → FitsSigned w32 z → negsuc (2 ^ 31) <ℤ z
fits_above (pos n) f = omega (arith, ints)
fits_above (negsuc n) f = omega (arith, ints)

pub short : (ds : List ℤ) → IsAscending ds → ((x : ℤ) → Contains ds x → FitsSigned w32 x) → length ds ≤ 2 ^ 32
short [] h small = omega arith
short (d ∷ ds) h small =
    let low : negsuc (2 ^ 31) <ℤ d = fits_above d (small d (in_first d ds)) in
    let more : (pos (length ds) +ℤ d) <ℤ pos (2 ^ 31) = above_low d (pos (2 ^ 31)) ds h (λ x m. fits_below x (small x (in_later d x ds m))) (fits_below d (small d (in_first d ds))) in
    omega (arith, ints)
