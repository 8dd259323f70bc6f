-- Rows of numbers that grow by codes that they lack.
use Rattle.std.proofs.Common.{refl, ℕ, ℤ, zero, suc, ◌≡◌, ◌<◌, ◌≤◌, ◌+◌, ◌*◌, ◌-◌, ◌^◌, Bool, true, false, ◌||◌, List, [], ◌∷◌, Some, negsuc, pos, length, slice_set, subst, sym, ap, ◌∙◌, arith, below_more, FitsSigned, w32}
use Rattle.std.specs.List.{Contains}
use Rattle.std.specs.Bool.{MatchBool}
use Rattle.std.proofs.Math.ListN.{length-set}
use Rattle.cv_core.specs.Names.{stmts_of}
use Rattle.cv_ppts.specs.Growing.{AreEmpty, Grows, IsAdded, IsSaturated, IsTable, Settles, inserted, total}
use Rattle.cv_ppts.specs.Lacking.{Lacks}
use Rattle.cv_ppts.specs.Numbers.{IsNumber, Rows, code_of, codes_of, number_of, row_at, row_codes}
use Rattle.cv_ppts.specs.Plain.{HasCode, HasEntryCodes, IsWithin, Sets, codes_at}
use Rattle.cv_ppts.specs.Setting.{Setting, set_count}
use Rattle.cv_ppts.specs.Targets.{AreClosed, AreLeast, HoldsAt, IsAscending}
use Rattle.cv_ppts.specs.declared.code.Code.{Code}
use Rattle.cv_ppts.specs.declared.code.Code.TheVariants as code
use Rattle.cv_ppts.proofs.Closing.{body_all}
use Rattle.cv_ppts.proofs.Lacked.{each_more, each_none, in_first, in_later}
use Rattle.cv_ppts.proofs.Inserted.{all_inserted, ascending_inserted, long_inserted, short}

-- ---- one set in the place of another

set_cases : (P : ℕ → List ℤ → Type 0) (S : Rows) (to h : ℕ) (v : List ℤ) → P h (row_at S h) → P to v → P h (row_at (slice_set S to v) h)
set_cases P [] to h v p q = p
set_cases P (xs ∷ S) zero zero v p q = q
set_cases P (xs ∷ S) zero (suc h) v p q = p
set_cases P (xs ∷ S) (suc to) zero v p q = p
set_cases P (xs ∷ S) (suc to) (suc h) v p q = set_cases (λ k ys. P (suc k) ys) S to h v p q

total_set : (S : Rows) (to : ℕ) (v : List ℤ) → to < length S → total (slice_set S to v) + length (row_at S to) ≡ total S + length v
total_set [] to v h = absurd (omega arith)
total_set (xs ∷ S) zero v h = omega arith
total_set (xs ∷ S) (suc to) v h = let k = total_set S to v (omega arith) in omega arith

-- ---- numbers and codes

code_back : (c : Code) (n : ℤ) → number_of c ≡ Some n → code_of n ≡ c
code_back code.Unknown n e = let f : negsuc 0 ≡ n = cc in ap code_of (sym f)
code_back code.Null n e = let f : pos 0 ≡ n = cc in ap code_of (sym f)
code_back (code.Target zero) n e = absurd (cc)
code_back (code.Target (suc t)) n e = let f : pos (suc t) ≡ n = cc in ap code_of (sym f)
code_back code.New n e = absurd (cc)

is_number : (c : Code) (n : ℤ) → number_of c ≡ Some n → IsNumber n
is_number c n e = ap number_of (code_back c n e) ∙ e

row_has : (ns : List ℤ) (n : ℤ) → Contains ns n → Contains (row_codes ns) (code_of n)
row_has [] n m = each_none (λ n. Contains [] (code_of n)) n m
row_has (x ∷ ns) n m =
    each_more (λ y. Contains (row_codes (x ∷ ns)) (code_of y)) x ns (in_first (code_of x) (row_codes ns)) (λ y k. in_later (code_of x) (code_of y) (row_codes ns) (row_has ns y k)) n m

row_all : (P : Code → Type 0) (ns : List ℤ) → ((n : ℤ) → Contains ns n → P (code_of n)) → (c : Code) → Contains (row_codes ns) c → P c
row_all P [] h c m = each_none P c m
row_all P (n ∷ ns) h c m = each_more P (code_of n) (row_codes ns) (h n (in_first n ns)) (row_all P ns (λ x k. h x (in_later n x ns k))) c m

pub codes_row : (S : Rows) (h : ℕ) → codes_at (codes_of S) h ≡ row_codes (row_at S h)
codes_row [] h = refl
codes_row (ns ∷ S) zero = refl
codes_row (ns ∷ S) (suc h) = codes_row S h

has_number : (S : Rows) (h : ℕ) (n : ℤ) → Contains (row_at S h) n → HasCode (codes_of S) h (code_of n)
has_number S h n m = subst (λ cs. Contains cs (code_of n)) (sym (codes_row S h)) (row_has (row_at S h) n m)

-- codes that are all within, by their numbers
within_rows : (S : Rows) (R : Sets) → ((h : ℕ) (n : ℤ) → Contains (row_at S h) n → HasCode R h (code_of n)) → IsWithin (codes_of S) R
within_rows S R f h c m = row_all (λ c. HasCode R h c) (row_at S h) (f h) c (subst (λ cs. Contains cs c) (codes_row S h) m)

-- ---- nothing new

pub stays : (S : Rows) (Q : Sets → Type 0) → Grows S S false Q
stays S Q = record { table = λ count t. t; within = λ R w q. w; change = refl }

-- ---- one code more

set_grows : (S : Rows) (Q : Sets → Type 0) (to : ℕ) (code : Code) (n : ℤ) → number_of code ≡ Some n → Lacks (codes_of S) Q to code → to < length S → FitsSigned w32 n → Grows S (slice_set S to (inserted n (row_at S to))) true Q
set_grows S Q to code n is l lt fits = record {
  table = λ count t. record {
    long = length-set S to (inserted n (row_at S to)) ∙ t.long;
    ascending = λ h. set_cases (λ k ys. IsAscending ys) S to h (inserted n (row_at S to)) (t.ascending h) (ascending_inserted n (row_at S to) (t.ascending to) new);
    numbers = λ h. set_cases (λ k ys. (c : ℤ) → Contains ys c → IsNumber c) S to h (inserted n (row_at S to)) (t.numbers h) (all_inserted (λ c. IsNumber c) n (row_at S to) (is_number code n is) (t.numbers to));
    small = λ h. set_cases (λ k ys. (c : ℤ) → Contains ys c → FitsSigned w32 c) S to h (inserted n (row_at S to)) (t.small h) (all_inserted (λ c. FitsSigned w32 c) n (row_at S to) fits (t.small to));
  };
  within = λ R w q. within_rows (slice_set S to (inserted n (row_at S to))) R
      (λ h. set_cases (λ k ys. (c : ℤ) → Contains ys c → HasCode R k (code_of c)) S to h (inserted n (row_at S to)) (λ c m. w h (code_of c) (has_number S h c m))
      (all_inserted (λ c. HasCode R to (code_of c)) n (row_at S to) (subst (HasCode R to) (sym (code_back code n is)) (l.asked R w q)) (λ c m. w to (code_of c) (has_number S to c m))));
  change = (let k = total_set S to (inserted n (row_at S to)) lt in let m = long_inserted n (row_at S to) in omega arith);
}
  where
    new : Contains (row_at S to) n → ⊥
    new m = l.absent (subst (HasCode (codes_of S) to) (code_back code n is) (has_number S to n m))

pub adds : (S T : Rows) (Q : Sets → Type 0) (to : ℕ) (code : Code) → Lacks (codes_of S) Q to code → IsAdded S T to code → Grows S T true Q
adds S T Q to code l a = subst (λ U. Grows S U true Q) (sym a.added) (set_grows S Q to code a.number a.is l a.within a.small)

-- ---- one growth behind another

change_then : (S T U : Rows) (a b : Bool) → MatchBool a (total S < total T) (T ≡ S) → MatchBool b (total T < total U) (U ≡ T) → MatchBool (a || b) (total S < total U) (U ≡ S)
change_then S T U true true h k = omega arith
change_then S T U true false h k = let e : total U ≡ total T = ap total k in omega arith
change_then S T U false true h k = let e : total T ≡ total S = ap total h in omega arith
change_then S T U false false h k = k ∙ h

pub grows_then : (S T U : Rows) (a b : Bool) (Q : Sets → Type 0) → Grows S T a Q → Grows T U b Q → Grows S U (a || b) Q
grows_then S T U a b Q g h = record {
  table = λ count t. h.table count (g.table count t);
  within = λ R w q. h.within R (g.within R w q) q;
  change = change_then S T U a b g.change h.change;
}

pub grows_part : (S T : Rows) (a : Bool) (Q W : Sets → Type 0) → ((R : Sets) → W R → Q R) → Grows S T a Q → Grows S T a W
grows_part S T a Q W part g = record { table = g.table; within = λ R w q. g.within R w (part R q); change = g.change }

or_true : (a : Bool) → (a || true) ≡ true
or_true true = refl
or_true false = refl

-- what is lacked is put in
pub grows_more : (S T U : Rows) (a : Bool) (Q : Sets → Type 0) (to : ℕ) (code : Code) → Grows S T a Q → Lacks (codes_of T) Q to code → IsAdded T U to code → Grows S U true Q
grows_more S T U a Q to code g l d = subst (λ b. Grows S U b Q) (or_true a) (grows_then S T U a true Q g (adds T U Q to code l d))

still : (S T : Rows) (a : Bool) (Q : Sets → Type 0) → a ≡ false → Settles S T a Q → T ≡ S
still S T true Q e g = absurd (cc)
still S T false Q e g = g.grown.change

or_first : (a b : Bool) → (a || b) ≡ false → a ≡ false
or_first true b e = e
or_first false b e = refl

or_second : (a b : Bool) → (a || b) ≡ false → b ≡ false
or_second true b e = absurd (cc)
or_second false b e = e

-- two parts of what is asked for, one after the other
pub settles_then : (S T U : Rows) (a b m : Bool) (Q V W : Sets → Type 0) → m ≡ (a || b) → ((R : Sets) → W R → Q R) → ((R : Sets) → W R → V R) → (Q (codes_of U) → V (codes_of U) → W (codes_of U)) →
    Settles S T a Q → Settles T U b V → Settles S U m W
settles_then S T U a b m Q V W is left right both g h =
    subst (λ n. Settles S U n W) (sym is) (record {
      grown = grows_then S T U a b W (grows_part S T a Q W left g.grown) (grows_part T U b V W right h.grown);
      kept = λ e. both (subst (λ X. Q (codes_of X)) (sym (still T U b V (or_second a b e) h)) (g.kept (or_first a b e))) (h.kept (or_second a b e));
    })

-- ---- over the statements

abbrev pub HoldBelow : Setting → ℕ → Sets → Type 0
HoldBelow s i R = (k : ℕ) → k < i → HoldsAt s R k

pub settles_none : (s : Setting) (S : Rows) → Settles S S false (HoldBelow s 0)
settles_none s S = record { grown = stays S (HoldBelow s 0); kept = λ e k lt. absurd (omega arith) }

pub settles_next : (s : Setting) (S T U : Rows) (a b m : Bool) (i : ℕ) → m ≡ (a || b) → Settles S T a (HoldBelow s i) → Settles T U b (λ R. HoldsAt s R i) → Settles S U m (HoldBelow s (i + 1))
settles_next s S T U a b m i is g h =
    settles_then S T U a b m (HoldBelow s i) (λ R. HoldsAt s R i) (HoldBelow s (i + 1)) is
    (λ R w k lt. w k (omega arith)) (λ R w. w i (omega arith)) (λ q v. below_more (λ k. HoldsAt s (codes_of U) k) i q v) g h

pub settles_all : (s : Setting) (S T : Rows) (a : Bool) (i : ℕ) → length (stmts_of s.proc.body) ≤ i → Settles S T a (HoldBelow s i) → Settles S T a (λ R. (k : ℕ) → HoldsAt s R k)
settles_all s S T a i ge g = record {
  grown = grows_part S T a (HoldBelow s i) (λ R. (k : ℕ) → HoldsAt s R k) (λ R w k lt. w k) g.grown;
  kept = λ e. body_all s (codes_of T) i ge (g.kept e);
}

pub settles_closed : (s : Setting) (S T U : Rows) (a b m : Bool) → m ≡ (a || b) → Settles S T a (λ R. HasEntryCodes s R) → Settles T U b (λ R. (k : ℕ) → HoldsAt s R k) → Settles S U m (λ R. AreClosed s R)
settles_closed s S T U a b m is g h =
    settles_then S T U a b m (λ R. HasEntryCodes s R) (λ R. (k : ℕ) → HoldsAt s R k) (λ R. AreClosed s R) is
    (λ R w. w.entry) (λ R w. w.statements) (λ q v. record { entry = q; statements = v }) g h

-- ---- the measure

total_limit : (S : Rows) → ((h : ℕ) → IsAscending (row_at S h)) → ((h : ℕ) (c : ℤ) → Contains (row_at S h) c → FitsSigned w32 c) → total S ≤ length S * 2 ^ 32
total_limit [] asc small = omega arith
total_limit (xs ∷ S) asc small =
    let first : length xs ≤ 2 ^ 32 = short xs (asc 0) (small 0) in
    let rest = total_limit S (λ h. asc (suc h)) (λ h. small (suc h)) in
    omega arith

pub table_here : (S T : Rows) (a : Bool) (Q : Sets → Type 0) → Grows S T a Q → IsTable (length S) S → IsTable (length T) T
table_here S T a Q g t = let k = g.table (length S) t in subst (λ n. IsTable n T) (sym k.long) k

-- there is less room after each growth
pub room : (S T : Rows) (Q : Sets → Type 0) → Grows S T true Q → IsTable (length S) S → length T * 2 ^ 32 - total T < length S * 2 ^ 32 - total S
room S T Q g t =
    let after = table_here S T true Q g t in
    let same : length T ≡ length S = (g.table (length S) t).long in
    let top : total T ≤ length T * 2 ^ 32 = total_limit T after.ascending after.small in
    let more : total S < total T = g.change in
    let e : length T * 2 ^ 32 ≡ length S * 2 ^ 32 = ap (λ n. n * 2 ^ 32) same in
    omega arith

-- ---- until nothing is new

pub record IsOnTheWay (s : Setting) (S T : Rows) : Type 0 where
  pub here : IsTable (length T) T
  pub table : (count : ℕ) → IsTable count S → IsTable count T
  pub within : (R : Sets) → IsWithin (codes_of S) R → AreClosed s R → IsWithin (codes_of T) R

pub way_begins : (s : Setting) (S : Rows) → IsTable (length S) S → IsOnTheWay s S S
way_begins s S t = record { here = t; table = λ count k. k; within = λ R w k. w }

pub way_goes_on : (s : Setting) (S T U : Rows) (more : Bool) → IsOnTheWay s S T → Settles T U more (λ R. AreClosed s R) → IsOnTheWay s S U
way_goes_on s S T U more w g = record {
  here = table_here T U more (λ R. AreClosed s R) g.grown w.here;
  table = λ count k. g.grown.table count (w.table count k);
  within = λ R i k. g.grown.within R (w.within R i k) k;
}

pub way_ends : (s : Setting) (S T U : Rows) (more : Bool) → more ≡ true → IsOnTheWay s S T → Settles T U more (λ R. AreClosed s R) → length U * 2 ^ 32 - total U < length T * 2 ^ 32 - total T
way_ends s S T U more e w g = room T U (λ R. AreClosed s R) (subst (λ b. Grows T U b (λ R. AreClosed s R)) e g.grown) w.here

pub way_is_over : (s : Setting) (S T U : Rows) (more : Bool) → more ≡ false → IsOnTheWay s S T → Settles T U more (λ R. AreClosed s R) → IsSaturated s S U
way_is_over s S T U more e w g =
    let over = way_goes_on s S T U more w g in
    record { table = over.table; within = over.within; closed = g.kept e }

-- ---- from nothing

no_number : (S : Rows) (count h : ℕ) (n : ℤ) → AreEmpty count S → Contains (row_at S h) n → ⊥
no_number S count h n e m = let (k, lt, f) = subst (λ xs. Contains xs n) (e.empty h) m in absurd (omega arith)

empty_table : (count : ℕ) (S : Rows) → AreEmpty count S → IsTable count S
empty_table count S e = record {
  long = e.long;
  ascending = λ h. subst IsAscending (sym (e.empty h)) tt;
  numbers = λ h n m. absurd (no_number S count h n e m);
  small = λ h n m. absurd (no_number S count h n e m);
}

pub empty_here : (count : ℕ) (S : Rows) → AreEmpty count S → IsTable (length S) S
empty_here count S e = subst (λ n. IsTable n S) (sym e.long) (empty_table count S e)

pub saturated_least : (s : Setting) (count : ℕ) (S T : Rows) → count ≡ set_count s → AreEmpty count S → IsSaturated s S T → AreLeast s T
saturated_least s count S T is e t =
    let table = t.table count (empty_table count S e) in
    record {
      counted = table.long ∙ is;
      ascending = table.ascending;
      numbers = table.numbers;
      closed = t.closed;
      least = λ R long closed. t.within R (within_rows S R (λ h n m. absurd (no_number S count h n e m))) closed;
    }
