-- What codes lack for a part they lack for the whole.
use Rattle.std.proofs.Common.{refl, ℕ, zero, suc, ◌≡◌, ◌<◌, ◌≤◌, ◌+◌, List, [], ◌∷◌, length, slice_index_or, subst, sym, below_more, arith, Option, Some, None, pos, ℤ, FitsSigned, of_z, to_z, w32}
use Rattle.std.specs.List.{Contains}
use Rattle.std.specs.Option.{MatchOption}
use Rattle.std.proofs.lemmas.Int.{to_z-of_z}
use Rattle.std.proofs.lemmas.List.{get_or_default}
use Rattle.cv_ppts.specs.Lacking.{Lacks}
use Rattle.cv_ppts.specs.Numbers.{code_of, row_codes}
use Rattle.cv_ppts.specs.Plain.{HasCode, IsWithin, Sets, codes_at}
use Rattle.cv_ppts.specs.declared.code.Code.{Code}
use Rattle.cv_ppts.specs.declared.sets.Missing.{Missing}

pub lacks_part : (T : Sets) (Q W : Sets → Type 0) (to : ℕ) (code : Code) → ((R : Sets) → IsWithin T R → W R → Q R) → Lacks T Q to code → Lacks T W to code
lacks_part T Q W to code part h = record {
  absent = h.absent;
  fails = λ w. h.fails (part T (λ p c x. x) w);
  asked = λ R within w. h.asked R within (part R within w);
}

-- ---- lists of which each element is asked for

pub each_none : {X : Type 0} (P : X → Type 0) (x : X) → Contains [] x → P x
each_none P x (k, lt, e) = absurd (omega arith)

pub each_more : {X : Type 0} (P : X → Type 0) (x : X) (xs : List X) → P x → ((y : X) → Contains xs y → P y) → (y : X) → Contains (x ∷ xs) y → P y
each_more P x xs here later y (zero, lt, e) = subst P e here
each_more P x xs here later y (suc k, lt, e) = later y (k, omega arith, e)

pub in_first : {X : Type 0} (x : X) (xs : List X) → Contains (x ∷ xs) x
in_first x xs = (0, omega arith, refl)

pub in_later : {X : Type 0} (x y : X) (xs : List X) → Contains xs y → Contains (x ∷ xs) y
in_later x y xs (k, lt, e) = (suc k, omega arith, e)

-- ---- loops over the numbers of a row, whose codes are asked for

pub in_row : (ns : List ℤ) (i : ℕ) → i < length ns → Contains (row_codes ns) (code_of (slice_index_or ns i (pos 0)))
in_row [] i h = absurd (omega arith)
in_row (n ∷ ns) zero h = in_first (code_of n) (row_codes ns)
in_row (n ∷ ns) (suc i) h = in_later (code_of n) (code_of (slice_index_or ns i (pos 0))) (row_codes ns) (in_row ns i (omega arith))

over_row : (P : Code → Type 0) (ns : List ℤ) → ((k : ℕ) (d : ℤ) → k < length ns → P (code_of (slice_index_or ns k d))) → (c : Code) → Contains (row_codes ns) c → P c
over_row P [] h c m = each_none P c m
over_row P (n ∷ ns) h c m = each_more P (code_of n) (row_codes ns) (h 0 (pos 0) (omega arith)) (over_row P ns (λ k d lt. h (suc k) d (omega arith))) c m

-- a number as 32 bits hold it
pub narrow : (z : ℤ) (c : Code) → FitsSigned w32 z → c ≡ code_of (to_z w32 (of_z w32 z)) → c ≡ code_of z
narrow z c f e = subst (λ y. c ≡ code_of y) (to_z-of_z w32 z f) e

pub passed : (P : Code → Type 0) (ns : List ℤ) (i : ℕ) (c : Code) → i < length ns → c ≡ code_of (slice_index_or ns i (pos 0)) → ((k : ℕ) (d : ℤ) → k < i → P (code_of (slice_index_or ns k d))) → P c →
    (k : ℕ) (d : ℤ) → k < i + 1 → P (code_of (slice_index_or ns k d))
passed P ns i c h is before here k d lt =
    below_more (λ k. P (code_of (slice_index_or ns k d))) i (λ k lt. before k d lt)
    (subst (λ n. P (code_of n)) (get_or_default ns i (pos 0) d h) (subst P is here)) k lt

pub all_passed : (P : Code → Type 0) (ns : List ℤ) (i : ℕ) → length ns ≤ i → ((k : ℕ) (d : ℤ) → k < i → P (code_of (slice_index_or ns k d))) → (c : Code) → Contains (row_codes ns) c → P c
all_passed P ns i h before = over_row P ns (λ k d lt. before k d (omega arith))

-- one of some codes
pub lacks_one : (P : Sets → Code → Type 0) (T : Sets) (ns : List ℤ) (i to : ℕ) (c code : Code) → i < length ns → c ≡ code_of (slice_index_or ns i (pos 0)) → Lacks T (λ R. P R c) to code →
    Lacks T (λ R. (x : Code) → Contains (row_codes ns) x → P R x) to code
lacks_one P T ns i to c code h is l =
    lacks_part T (λ R. P R c) (λ R. (x : Code) → Contains (row_codes ns) x → P R x) to code (λ R within w. w c (subst (λ x. Contains (row_codes ns) x) (sym is) (in_row ns i h))) l

-- the codes of a set
pub over_place : (P : Sets → Code → Type 0) (T : Sets) (cs : List Code) (from : ℕ) (o : Option Missing) → cs ≡ codes_at T from →
    MatchOption o ((c : Code) → Contains cs c → P T c) (λ m. Lacks T (λ R. (c : Code) → Contains cs c → P R c) m.to m.code) →
    MatchOption o ((c : Code) → HasCode T from c → P T c) (λ m. Lacks T (λ R. (c : Code) → HasCode R from c → P R c) m.to m.code)
over_place P T cs from None e h = λ c x. h c (subst (λ xs. Contains xs c) (sym e) x)
over_place P T cs from (Some m) e h =
    lacks_part T (λ R. (c : Code) → Contains cs c → P R c) (λ R. (c : Code) → HasCode R from c → P R c) m.to m.code
    (λ R within w c x. w c (within from c (subst (λ xs. Contains xs c) e x))) h

-- ---- numbers

pub number_passed : (P : ℕ → Type 0) (i : ℕ) → ((k : ℕ) → k < i → P k) → P i → (k : ℕ) → k < i + 1 → P k
number_passed P i before here = below_more P i before here

pub number_all : (P : ℕ → Type 0) (i count : ℕ) → count ≤ i → ((k : ℕ) → k < i → P k) → (k : ℕ) → k < count → P k
number_all P i count h before k lt = before k (omega arith)

-- ---- an answer to one question as an answer to another

pub answer_part : (T : Sets) (Q W : Sets → Type 0) (o : Option Missing) → (Q T → W T) → ((R : Sets) → IsWithin T R → W R → Q R) →
    MatchOption o (Q T) (λ m. Lacks T Q m.to m.code) → MatchOption o (W T) (λ m. Lacks T W m.to m.code)
answer_part T Q W None f g h = f h
answer_part T Q W (Some m) f g h = lacks_part T Q W m.to m.code g h

pub none_below : {X : Type 0} (P : X → Type 0) (xs : List X) → length xs < 1 → (x : X) → Contains xs x → P x
none_below P xs h x (k, lt, e) = absurd (omega arith)

-- ---- the first of some, and the others

pub first_of : {X : Type 0} (P : Sets → X → Type 0) (T : Sets) (xs : List X) (x : X) (more : List X) (to : ℕ) (code : Code) → xs ≡ x ∷ more → Lacks T (λ R. P R x) to code →
    Lacks T (λ R. (y : X) → Contains xs y → P R y) to code
first_of {X = X} P T xs x more to code e l =
    lacks_part T (λ R. P R x) (λ R. (y : X) → Contains xs y → P R y) to code (λ R within w. w x (subst (λ ys. Contains ys x) (sym e) (in_first x more))) l

pub rest_of : {X : Type 0} (P : Sets → X → Type 0) (T : Sets) (xs : List X) (x : X) (more : List X) (o : Option Missing) → xs ≡ x ∷ more → P T x →
    MatchOption o ((y : X) → Contains more y → P T y) (λ m. Lacks T (λ R. (y : X) → Contains more y → P R y) m.to m.code) →
    MatchOption o ((y : X) → Contains xs y → P T y) (λ m. Lacks T (λ R. (y : X) → Contains xs y → P R y) m.to m.code)
rest_of {X = X} P T xs x more o e here l =
    answer_part T (λ R. (y : X) → Contains more y → P R y) (λ R. (y : X) → Contains xs y → P R y) o
    (λ q. subst (λ ys. (y : X) → Contains ys y → P T y) (sym e) (each_more (P T) x more here q))
    (λ R within w y m. w y (subst (λ ys. Contains ys y) (sym e) (in_later x y more m))) l

pub nil_below : {X : Type 0} (xs : List X) → length xs < 1 → xs ≡ []
nil_below [] h = refl
nil_below (x ∷ xs) h = absurd (omega arith)
