-- Families that grow by the union of a set with another.
use Rattle.std.proofs.Common.{◌^◌, refl, ℕ, zero, suc, ◌≡◌, ◌<◌, ◌≤◌, ◌+◌, ◌*◌, Bool, true, false, List, [], ◌∷◌, length, subst, sym, ap, ◌∙◌, arith, slice_set, slice_index_or, below_more, ◌||◌, Option, Some, None}
use Rattle.std.specs.List.{Contains}
use Rattle.std.specs.Bool.{MatchBool}
use Rattle.std.proofs.Math.ListN.{length-set}
use Rattle.std.proofs.lemmas.List.{get_or_default}
use Rattle.cv_points.specs.Closed.{Family, IsSubset, IsWithin, set_at}
use Rattle.cv_points.specs.Growing.{Grows, IsGrownAt, IsTable, Places, ReadsCell, WritesCell, place_at, total}
use Rattle.cv_points.specs.Least.{IsAscending}
use Rattle.cv_points.specs.Merge.{is_merged, merge}
use Rattle.cv_points.proofs.Merged.{all_merged, ascending_merged, ascending_short, cons_cases, here, length_more, merged_subset, none}

set_cases : (P : ℕ → List ℕ → Type 0) (S : Family) (to h : ℕ) (v : List ℕ) → P h (set_at S h) → P to v → P h (set_at (slice_set S to v) h)
set_cases P [] to h v p q = p
set_cases P (xs ∷ S) zero zero v p q = q
set_cases P (xs ∷ S) zero (suc h) v p q = p
set_cases P (xs ∷ S) (suc to) zero v p q = p
set_cases P (xs ∷ S) (suc to) (suc h) v p q = set_cases (λ k ys. P (suc k) ys) S to h v p q

total_set : (S : Family) (to : ℕ) (v : List ℕ) → to < length S → total (slice_set S to v) + length (set_at S to) ≡ total S + length v
total_set [] to v h = absurd (omega arith)
total_set (xs ∷ S) zero v h = omega arith
total_set (xs ∷ S) (suc to) v h = let k = total_set S to v (omega arith) in omega arith

pub stays : (S : Family) (Q : Family → Type 0) → Q S → Grows S S false Q
stays S Q q = record { table = λ count t. t; within = λ R w k. w; change = (refl, q) }

pub grows : (S : Family) (to : ℕ) (xs : List ℕ) (Q : Family → Type 0) → to < length S → is_merged xs (set_at S to) ≡ false →
    ((count : ℕ) → IsTable count S → IsAscending xs) → ((count : ℕ) → IsTable count S → (s : ℕ) → Contains xs s → s < 2 ^ 32) →
    ((R : Family) → IsWithin S R → Q R → IsSubset xs (set_at R to)) → Grows S (slice_set S to (merge xs (set_at S to))) true Q
grows S to xs Q lt e asc small inside = record {
  table = λ count t. record {
    long = length-set S to (merge xs (set_at S to)) ∙ t.long;
    ascending = λ h. set_cases (λ k ys. IsAscending ys) S to h (merge xs (set_at S to)) (t.ascending h) (ascending_merged 0 xs (set_at S to) (asc count t) (t.ascending to));
    small = λ h. set_cases (λ k ys. (s : ℕ) → Contains ys s → s < 2 ^ 32) S to h (merge xs (set_at S to)) (t.small h) (all_merged (λ s. s < 2 ^ 32) xs (set_at S to) (small count t) (t.small to));
  };
  within = λ R w q h. set_cases (λ k ys. IsSubset ys (set_at R k)) S to h (merge xs (set_at S to)) (w h) (all_merged (Contains (set_at R to)) xs (set_at S to) (inside R w q) (w to));
  change = (let k = total_set S to (merge xs (set_at S to)) lt in let m = length_more xs (set_at S to) e in omega arith);
}

-- ---- a rule that puts sites into one set

pub site_stays : (S : Family) (to site : ℕ) → is_merged (site ∷ []) (set_at S to) ≡ true → Grows S S false (λ R. Contains (set_at R to) site)
site_stays S to site e = stays S (λ R. Contains (set_at R to) site) (merged_subset (site ∷ []) (set_at S to) e site (here site []))

pub site_grows : (S : Family) (to site : ℕ) → site < 2 ^ 32 → to < length S → is_merged (site ∷ []) (set_at S to) ≡ false →
    Grows S (slice_set S to (merge (site ∷ []) (set_at S to))) true (λ R. Contains (set_at R to) site)
site_grows S to site fits lt e =
    grows S to (site ∷ []) (λ R. Contains (set_at R to) site) lt e (λ count t. (omega arith, tt)) (λ count t. cons_cases (λ s. s < 2 ^ 32) site [] fits (none (λ s. s < 2 ^ 32)))
    (λ R w q. cons_cases (Contains (set_at R to)) site [] q (none (Contains (set_at R to))))

pub set_stays : (S : Family) (from to : ℕ) → is_merged (set_at S from) (set_at S to) ≡ true → Grows S S false (λ R. IsSubset (set_at R from) (set_at R to))
set_stays S from to e = stays S (λ R. IsSubset (set_at R from) (set_at R to)) (merged_subset (set_at S from) (set_at S to) e)

pub set_grows : (S : Family) (from to : ℕ) → to < length S → is_merged (set_at S from) (set_at S to) ≡ false →
    Grows S (slice_set S to (merge (set_at S from) (set_at S to))) true (λ R. IsSubset (set_at R from) (set_at R to))
set_grows S from to lt e =
    grows S to (set_at S from) (λ R. IsSubset (set_at R from) (set_at R to)) lt e (λ count t. t.ascending from) (λ count t. t.small from)
    (λ R w q s c. q s (w from s c))

-- ---- as the code gives it

pub site_none : (S : Family) (to site : ℕ) (xs : List ℕ) (o : Option (List ℕ)) → xs ≡ site ∷ [] → o ≡ None → IsGrownAt S xs to o → Grows S S false (λ R. Contains (set_at R to) site)
site_none S to site xs None e n h = site_stays S to site (subst (λ zs. is_merged zs (set_at S to) ≡ true) e h)
site_none S to site xs (Some ys) e n h = absurd (cc)

pub site_some : (S : Family) (to site : ℕ) (xs ys : List ℕ) (o : Option (List ℕ)) → xs ≡ site ∷ [] → site < 2 ^ 32 → o ≡ Some ys → IsGrownAt S xs to o →
    Grows S (slice_set S to ys) true (λ R. Contains (set_at R to) site)
site_some S to site xs ys None e fits n h = absurd (cc)
site_some S to site xs ys (Some zs) e fits n h =
    let same : ys ≡ merge (site ∷ []) (set_at S to) = (let f : zs ≡ ys = cc in sym f ∙ h.2 ∙ ap (λ v. merge v (set_at S to)) e) in
    subst (λ v. Grows S (slice_set S to v) true (λ R. Contains (set_at R to) site)) (sym same)
    (site_grows S to site fits h.0 (subst (λ v. is_merged v (set_at S to) ≡ false) e h.1))

pub set_none : (S : Family) (from to : ℕ) (xs : List ℕ) (o : Option (List ℕ)) → xs ≡ set_at S from → o ≡ None → IsGrownAt S xs to o → Grows S S false (λ R. IsSubset (set_at R from) (set_at R to))
set_none S from to xs None e n h = set_stays S from to (subst (λ zs. is_merged zs (set_at S to) ≡ true) e h)
set_none S from to xs (Some ys) e n h = absurd (cc)

pub set_some : (S : Family) (from to : ℕ) (xs ys : List ℕ) (o : Option (List ℕ)) → xs ≡ set_at S from → o ≡ Some ys → IsGrownAt S xs to o →
    Grows S (slice_set S to ys) true (λ R. IsSubset (set_at R from) (set_at R to))
set_some S from to xs ys None e n h = absurd (cc)
set_some S from to xs ys (Some zs) e n h =
    let same : ys ≡ merge (set_at S from) (set_at S to) = (let f : zs ≡ ys = cc in sym f ∙ h.2 ∙ ap (λ v. merge v (set_at S to)) e) in
    subst (λ v. Grows S (slice_set S to v) true (λ R. IsSubset (set_at R from) (set_at R to))) (sym same)
    (set_grows S from to h.0 (subst (λ v. is_merged v (set_at S to) ≡ false) e h.1))

-- ---- one growth behind another

change_then : (S T U : Family) (a b : Bool) (Q W : Family → Type 0) → MatchBool a (total S < total T) ((T ≡ S) × Q T) → MatchBool b (total T < total U) ((U ≡ T) × W U) →
    MatchBool (a || b) (total S < total U) ((U ≡ S) × (Q U × W U))
change_then S T U true true Q W h k = omega arith
change_then S T U true false Q W h k = let e : total U ≡ total T = ap total k.0 in omega arith
change_then S T U false true Q W h k = let e : total T ≡ total S = ap total h.0 in omega arith
change_then S T U false false Q W h k = (k.0 ∙ h.0, (subst Q (sym k.0) h.1, k.1))

pub grows_then : (S T U : Family) (a b : Bool) (Q W : Family → Type 0) → Grows S T a Q → Grows T U b W → Grows S U (a || b) (λ R. Q R × W R)
grows_then S T U a b Q W g h = record {
  table = λ count t. h.table count (g.table count t);
  within = λ R w q. h.within R (g.within R w q.0) q.1;
  change = change_then S T U a b Q W g.change h.change;
}

change_as : (S T : Family) (a : Bool) (Q W : Family → Type 0) → (Q T → W T) → MatchBool a (total S < total T) ((T ≡ S) × Q T) → MatchBool a (total S < total T) ((T ≡ S) × W T)
change_as S T true Q W f h = h
change_as S T false Q W f h = (h.0, f h.1)

-- the same growth for what asks for the same
pub grows_as : (S T : Family) (a : Bool) (Q W : Family → Type 0) → ((R : Family) → IsWithin S R → W R → Q R) → (Q T → W T) → Grows S T a Q → Grows S T a W
grows_as S T a Q W back forth g = record {
  table = g.table;
  within = λ R w q. g.within R w (back R w q);
  change = change_as S T a Q W forth g.change;
}

-- ---- the rules of get and put

pub read_as : (cells : Places) (S T : Family) (a : Bool) (cell s to : ℕ) → place_at cells s ≡ Some cell →
    Grows S T a (λ R. IsSubset (set_at R cell) (set_at R to)) → Grows S T a (λ R. ReadsCell cells R to s)
read_as cells S T a cell s to e g =
    grows_as S T a (λ R. IsSubset (set_at R cell) (set_at R to)) (λ R. ReadsCell cells R to s) (λ R w q. q cell e)
    (λ q k f. let same : cell ≡ k = cc in subst (λ n. IsSubset (set_at T n) (set_at T to)) same q) g

pub write_as : (cells : Places) (S T : Family) (a : Bool) (from cell s : ℕ) → place_at cells s ≡ Some cell →
    Grows S T a (λ R. IsSubset (set_at R from) (set_at R cell)) → Grows S T a (λ R. WritesCell cells R from s)
write_as cells S T a from cell s e g =
    grows_as S T a (λ R. IsSubset (set_at R from) (set_at R cell)) (λ R. WritesCell cells R from s) (λ R w q. q cell e)
    (λ q k f. let same : cell ≡ k = cc in subst (λ n. IsSubset (set_at T from) (set_at T n)) same q) g

change_at : (S T : Family) (a : Bool) (w : ℕ) (xs : List ℕ) (P : Family → ℕ → Type 0) → xs ≡ set_at S w → MatchBool a (total S < total T) ((T ≡ S) × ((s : ℕ) → Contains xs s → P T s)) →
    MatchBool a (total S < total T) ((T ≡ S) × ((s : ℕ) → Contains (set_at T w) s → P T s))
change_at S T true w xs P e h = h
change_at S T false w xs P e h = (h.0, λ s c. h.1 s (subst (λ zs. Contains zs s) (ap (λ F. set_at F w) h.0 ∙ sym e) c))

-- the sites to which w points, as they were before
pub pointed_as : (S T : Family) (a : Bool) (w : ℕ) (xs : List ℕ) (P : Family → ℕ → Type 0) → xs ≡ set_at S w →
    Grows S T a (λ R. (s : ℕ) → Contains xs s → P R s) → Grows S T a (λ R. (s : ℕ) → Contains (set_at R w) s → P R s)
pointed_as S T a w xs P e g = record {
  table = g.table;
  within = λ R i q. g.within R i (λ s c. q s (i w s (subst (λ zs. Contains zs s) e c)));
  change = change_at S T a w xs P e g.change;
}

-- ---- over a list

abbrev pub Passed : {X : Type 0} → (X → Type 0) → List X → ℕ → Type 0
Passed {X} P xs i = (k : ℕ) (d : X) → k < i → P (slice_index_or xs k d)

pub grows_none : {X : Type 0} (S : Family) (P : Family → X → Type 0) (xs : List X) → Grows S S false (λ R. Passed (P R) xs 0)
grows_none S P xs = stays S (λ R. Passed (P R) xs 0) (λ k d lt. absurd (omega arith))

pub grows_next : {X : Type 0} (S T U : Family) (a b m : Bool) (P : Family → X → Type 0) (xs : List X) (i : ℕ) (x d : X) → m ≡ (a || b) → i < length xs → x ≡ slice_index_or xs i d →
    Grows S T a (λ R. Passed (P R) xs i) → Grows T U b (λ R. P R x) → Grows S U m (λ R. Passed (P R) xs (i + 1))
grows_next {X} S T U a b m P xs i x d is lt e g h =
    subst (λ n. Grows S U n (λ R. Passed (P R) xs (i + 1))) (sym is) (grows_as S U (a || b) (λ R. Passed (P R) xs i × P R x) (λ R. Passed (P R) xs (i + 1))
    (λ R w q. ((λ k y l. q k y (omega arith)), subst (P R) (sym e) (q i d (omega arith))))
    (λ q k y l. below_more (λ k. P U (slice_index_or xs k y)) i (λ k l. q.0 k y l) (subst (P U) (e ∙ get_or_default xs i d y lt) q.1) k l)
    (grows_then S T U a b (λ R. Passed (P R) xs i) (λ R. P R x) g h))

pub grows_all : {X : Type 0} (S T : Family) (a : Bool) (P : Family → X → Type 0) (xs : List X) (i : ℕ) → i ≤ length xs → length xs ≤ i →
    Grows S T a (λ R. Passed (P R) xs i) → Grows S T a (λ R. (x : X) → Contains xs x → P R x)
grows_all {X} S T a P xs i le ge g =
    grows_as S T a (λ R. Passed (P R) xs i) (λ R. (x : X) → Contains xs x → P R x)
    (λ R w q k d l. q (slice_index_or xs k d) (k, omega arith, get_or_default xs k (slice_index_or xs k d) d (omega arith)))
    (λ q x (k, l, e). subst (P T) e (q k x (omega arith)))
    g

-- ---- the measure

pub total_limit : (S : Family) → ((h : ℕ) → IsAscending (set_at S h)) → ((h s : ℕ) → Contains (set_at S h) s → s < 2 ^ 32) → total S ≤ length S * 2 ^ 32
total_limit [] asc small = omega arith
total_limit (xs ∷ S) asc small =
    let first : 0 + length xs ≤ 2 ^ 32 = ascending_short 0 (2 ^ 32) xs (asc 0) (small 0) (omega arith) in
    let rest = total_limit S (λ h. asc (suc h)) (λ h. small (suc h)) in
    omega arith
