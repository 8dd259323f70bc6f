-- What each kind of line is read as: just the value that it spells, and just from the line that spells it.
use Rattle.std.proofs.Common.{◌≡◌, ◌==◌, ℕ, suc, ◌<◌, ◌≤◌, Bool, true, false, ◌&&◌, cond, nat_lt, List, [], ◌∷◌, length, map, Option, Some, None, option_map, option_and_then, ℤ, refl, ap, subst, ◌∙◌, arith, FitsSigned, codes, eqb-true, eq-eqb}
use Rattle.std.specs.Fmt.{decimal, signed_decimal}
use Rattle.std.specs.Int.{w64}
use Rattle.std.specs.List.{AllByRecursion, flat_map}
use Rattle.std.specs.Str.{bytes_eq}
use Rattle.std.proofs.lemmas.Slice.Eq.{bytes_eq-Decides}
use Rattle.std.proofs.lemmas.Bool.Decides.{nat_tests}
use Rattle.cv_core.specs.Grammar.{is_name, IsName}
use Rattle.cv_num.specs.Pairs.{IsCanonical}
use Rattle.cv_num.specs.declared.rows.Row.{Row}
use Rattle.cv_farkas.specs.declared.steps.Step.{Step}
use Rattle.cv_cert.specs.Certificate.{IsNumber, Ascends, IsSet, IsPair, IsRow, IsAfter, IsStep}
use Rattle.cv_cert.specs.Text.{Line, set_line, row_line, picks_line, step_line}
use Rattle.cv_cert.specs.Tokens.{number_of, integer_of, both, numbers_of, ascending_from, pairs_by, is_canonical, has_room, is_after}
use Rattle.cv_cert.specs.Lines.{tail_of, ends, if_true, tail_behind, is_header, is_end, only_number, count_of, is_number, is_case, set_of, rows_after, at_of, counted, counted_numbers, picks_of, made_row, if_canonical, row_after, row_of, fitting, next_row_of, made_step, step_after, step_of, named, block_of}
use Rattle.cv_cert.proofs.Numbers.{number_takes, number_again, integer_takes, integer_again}
use Rattle.cv_cert.proofs.RowOrder.{canonical_is, is_canonical_of}

-- ---- options

some_is : {A : Type 0} (a b : A) → Some a ≡ Some b → a ≡ b
some_is a b e = cc

and_some : {A B : Type 0} (f : A → Option B) (o : Option A) (b : B) → option_and_then f o ≡ Some b → (a : A) × (o ≡ Some a) × (f a ≡ Some b)
and_some f None b e = absurd cc
and_some f (Some a) b e = (a, refl, e)

both_some : {A B C : Type 0} (f : A → B → C) (a : Option A) (b : Option B) (c : C) → both f a b ≡ Some c → (x : A) × (y : B) × (a ≡ Some x) × (b ≡ Some y) × (f x y ≡ c)
both_some f None b c e = absurd cc
both_some f (Some x) None c e = absurd cc
both_some f (Some x) (Some y) c e = (x, y, refl, refl, some_is (f x y) c e)

both_of : {A B C : Type 0} (f : A → B → C) (a : Option A) (b : Option B) (x : A) (y : B) → a ≡ Some x → b ≡ Some y → both f a b ≡ Some (f x y)
both_of f a b x y e k = ap (λ o. both f o b) e ∙ ap (λ o. both f (Some x) o) k

map_some : {A B : Type 0} (f : A → B) (o : Option A) (b : B) → option_map f o ≡ Some b → (a : A) × (o ≡ Some a) × (f a ≡ b)
map_some f None b e = absurd cc
map_some f (Some a) b e = (a, refl, some_is (f a) b e)

if_some : {A : Type 0} (b : Bool) (a c : A) → cond b (Some a) None ≡ Some c → (b ≡ true) × (a ≡ c)
if_some true a c e = (refl, some_is a c e)
if_some false a c e = absurd cc

-- ---- words

tail_takes : (word : List ℕ) (line ts : Line) → tail_of word line ≡ Some ts → line ≡ word ∷ ts
tail_takes word [] ts e = absurd cc
tail_takes word (t ∷ us) ts e =
    let k = if_some (bytes_eq t word) us ts e in
    let same : t ≡ word = (bytes_eq-Decides t word).0 k.0 in
    cc (same, k.1)

tail_again : (word : List ℕ) (ts : Line) → tail_of word (word ∷ ts) ≡ Some ts
tail_again word ts = ap (λ b. cond b (Some ts) None) ((bytes_eq-Decides word word).1 refl)

ends_is : (o : Option Line) → ends o ≡ true → o ≡ Some []
ends_is None e = absurd cc
ends_is (Some []) e = refl
ends_is (Some (t ∷ ts)) e = absurd cc

pub end_takes : (line : Line) → is_end line ≡ true → line ≡ codes "end" ∷ []
unfolding is_end
end_takes line e = tail_takes (codes "end") line [] (ends_is (tail_of (codes "end") line) e)

pub end_again : is_end (codes "end" ∷ []) ≡ true
unfolding is_end
end_again = refl

pub header_takes : (line : Line) → is_header line ≡ true → line ≡ codes "cssv-cert" ∷ codes "1" ∷ []
unfolding is_header
header_takes line e = by_tail (tail_of (codes "cssv-cert") line) refl (ends_is (tail_behind (codes "1") (tail_of (codes "cssv-cert") line)) e)
  where
    by_tail : (o : Option Line) → tail_of (codes "cssv-cert") line ≡ o → tail_behind (codes "1") o ≡ Some [] → line ≡ codes "cssv-cert" ∷ codes "1" ∷ []
    by_tail None k h = absurd cc
    by_tail (Some ts) k h = tail_takes (codes "cssv-cert") line ts k ∙ ap (λ (us : Line). codes "cssv-cert" ∷ us) (tail_takes (codes "1") ts [] h)

pub header_again : is_header (codes "cssv-cert" ∷ codes "1" ∷ []) ≡ true
unfolding is_header
header_again = refl

pub if_true_is : (b : Bool) (u : Unit {0}) → if_true b ≡ Some u → b ≡ true
if_true_is true u e = refl
if_true_is false u e = absurd cc

-- ---- a word and a number

only_takes : (ts : Line) (n : ℕ) → only_number ts ≡ Some n → (ts ≡ decimal n ∷ []) × IsNumber n
only_takes [] n e = absurd cc
only_takes (t ∷ []) n e = let k = number_takes t n e in (ap (λ (u : List ℕ). u ∷ []) k.0, k.1)
only_takes (t ∷ (u ∷ us)) n e = absurd cc

pub count_takes : (word : List ℕ) (line : Line) (n : ℕ) → count_of word line ≡ Some n → (line ≡ word ∷ decimal n ∷ []) × IsNumber n
unfolding count_of
count_takes word line n e =
    let k = and_some only_number (tail_of word line) n e in
    let m = only_takes k.0 n k.2 in
    (tail_takes word line k.0 k.1 ∙ ap (λ (us : Line). word ∷ us) m.0, m.1)

pub count_again : (word : List ℕ) (n : ℕ) → IsNumber n → count_of word (word ∷ decimal n ∷ []) ≡ Some n
unfolding count_of
count_again word n h = ap (option_and_then only_number) (tail_again word (decimal n ∷ [])) ∙ number_again n h

number_is : (n : ℕ) (o : Option ℕ) → is_number n o ≡ true → o ≡ Some n
number_is n None e = absurd cc
number_is n (Some m) e = ap (λ (k : ℕ). Some k) (eqb-true m n e)

is_number_of : (n : ℕ) → is_number n (Some n) ≡ true
is_number_of n = eq-eqb n n refl

pub case_takes : (n : ℕ) (line : Line) → is_case n line ≡ true → (line ≡ codes "case" ∷ decimal n ∷ []) × IsNumber n
unfolding is_case
case_takes n line e = count_takes (codes "case") line n (number_is n (count_of (codes "case") line) e)

pub case_again : (n : ℕ) → IsNumber n → is_case n (codes "case" ∷ decimal n ∷ []) ≡ true
unfolding is_case
case_again n h = ap (is_number n) (count_again (codes "case") n h) ∙ is_number_of n

-- ---- lists of numbers

numbers_takes : (ts : Line) (ns : List ℕ) → numbers_of ts ≡ Some ns → (ts ≡ map decimal ns) × AllByRecursion IsNumber ns
numbers_takes [] ns e = subst (λ (xs : List ℕ). ([] ≡ map decimal xs) × AllByRecursion IsNumber xs) (some_is [] ns e) (refl, tt)
numbers_takes (t ∷ ts) ns e =
    let k = both_some (λ n ns. n ∷ ns) (number_of t) (numbers_of ts) ns e in
    let m = number_takes t k.0 k.2 in
    let r = numbers_takes ts k.1 k.3 in
    let line : t ∷ ts ≡ decimal k.0 ∷ map decimal k.1 = cc (m.0, r.0) in
    subst (λ (xs : List ℕ). (t ∷ ts ≡ map decimal xs) × AllByRecursion IsNumber xs) k.4 (line, (m.1, r.1))

numbers_again : (ns : List ℕ) → AllByRecursion IsNumber ns → numbers_of (map decimal ns) ≡ Some ns
numbers_again [] h = refl
numbers_again (n ∷ ns) h = both_of (λ n ns. n ∷ ns) (number_of (decimal n)) (numbers_of (map decimal ns)) n ns (number_again n h.0) (numbers_again ns h.1)

abbrev AreAscending : ℕ → List ℕ → Type 0
AreAscending from ns = AllByRecursion IsNumber ns × AllByRecursion (λ n. from ≤ n) ns × Ascends ns

weaker : (from n : ℕ) (ns : List ℕ) → from ≤ n → AllByRecursion (λ m. suc n ≤ m) ns → AllByRecursion (λ m. from ≤ m) ns
weaker from n [] h k = tt
weaker from n (m ∷ ms) h k = (omega (arith, k.0), weaker from n ms h k.1)

above : (n : ℕ) (ns : List ℕ) → AllByRecursion (λ m. suc n ≤ m) ns → AllByRecursion (λ m. n < m) ns
above n [] k = tt
above n (m ∷ ms) k = (omega (arith, k.0), above n ms k.1)

at_least : (n : ℕ) (ns : List ℕ) → AllByRecursion (λ m. n < m) ns → AllByRecursion (λ m. suc n ≤ m) ns
at_least n [] k = tt
at_least n (m ∷ ms) k = (omega (arith, k.0), at_least n ms k.1)

ascending_takes : (from : ℕ) (ts : Line) (ns : List ℕ) → ascending_from from ts ≡ Some ns → (ts ≡ map decimal ns) × AreAscending from ns
ascending_takes from [] ns e = subst (λ (xs : List ℕ). ([] ≡ map decimal xs) × AreAscending from xs) (some_is [] ns e) (refl, (tt, tt, tt))
ascending_takes from (t ∷ ts) ns e = parts (and_some (λ n. cond (nat_lt n from) None (option_map (λ xs. n ∷ xs) (ascending_from (suc n) ts))) (number_of t) ns e) (λ n xs k. ascending_takes (suc n) ts xs k)
  where
    parts : (n : ℕ) × (number_of t ≡ Some n) × (cond (nat_lt n from) None (option_map (λ xs. n ∷ xs) (ascending_from (suc n) ts)) ≡ Some ns) → ((n : ℕ) (xs : List ℕ) → ascending_from (suc n) ts ≡ Some xs → (ts ≡ map decimal xs) × AreAscending (suc n) xs) → (t ∷ ts ≡ map decimal ns) × AreAscending from ns
    parts w go = by_test (nat_lt w.0 from) refl w.2
      where
        by_test : (b : Bool) → nat_lt w.0 from ≡ b → cond b None (option_map (λ xs. w.0 ∷ xs) (ascending_from (suc w.0) ts)) ≡ Some ns → (t ∷ ts ≡ map decimal ns) × AreAscending from ns
        by_test true p q = absurd cc
        by_test false p q =
            let k = map_some (λ xs. w.0 ∷ xs) (ascending_from (suc w.0) ts) ns q in
            let m = number_takes t w.0 w.1 in
            let r = go w.0 k.0 k.1 in
            let line : t ∷ ts ≡ decimal w.0 ∷ map decimal k.0 = cc (m.0, r.0) in
            let low : from ≤ w.0 = grind (arith, nat_tests) in
            let rs = r.1 in
            subst (λ (xs : List ℕ). (t ∷ ts ≡ map decimal xs) × AreAscending from xs) k.2 (line, ((m.1, rs.0), (low, weaker from w.0 k.0 low rs.1), (above w.0 k.0 rs.1, rs.2)))

ascending_again : (from : ℕ) (ns : List ℕ) → AreAscending from ns → ascending_from from (map decimal ns) ≡ Some ns
ascending_again from [] h = refl
ascending_again from (n ∷ ns) h =
    let numbers = h.0 in
    let lows = h.1 in
    let ups = h.2 in
    let low : nat_lt n from ≡ false = (let k : from ≤ n = lows.0 in grind (arith, nat_tests)) in
    ap (option_and_then (λ m. cond (nat_lt m from) None (option_map (λ xs. m ∷ xs) (ascending_from (suc m) (map decimal ns))))) (number_again n numbers.0)
    ∙ ap (λ b. cond b None (option_map (λ xs. n ∷ xs) (ascending_from (suc n) (map decimal ns)))) low
    ∙ ap (option_map (λ xs. n ∷ xs)) (ascending_again (suc n) ns (numbers.1, at_least n ns ups.0, ups.1))

from_zero : (ns : List ℕ) → AllByRecursion (λ n. 0 ≤ n) ns
from_zero [] = tt
from_zero (n ∷ ns) = (omega arith, from_zero ns)

pub set_takes : (line : Line) (s : List ℕ) → set_of line ≡ Some s → (line ≡ set_line s) × IsSet s
unfolding set_of
set_takes line s e =
    let k = and_some (ascending_from 0) (tail_of (codes "set") line) s e in
    let m = ascending_takes 0 k.0 s k.2 in
    let a = m.1 in
    (tail_takes (codes "set") line k.0 k.1 ∙ ap (λ (us : Line). codes "set" ∷ us) m.0, (a.0, a.2))

pub set_again : (s : List ℕ) → IsSet s → set_of (set_line s) ≡ Some s
unfolding set_of
set_again s h = ap (option_and_then (ascending_from 0)) (tail_again (codes "set") (map decimal s)) ∙ ascending_again 0 s (h.0, from_zero s, h.1)

-- ---- pairs

module _ {B : Type 0} (f : List ℕ → Option B) (text : B → List ℕ) (Fits : B → Type 0) (f_takes : (t : List ℕ) (b : B) → f t ≡ Some b → (t ≡ text b) × Fits b) (f_again : (b : B) → Fits b → f (text b) ≡ Some b) where
  abbrev PairFits : ℕ × B → Type 0
  PairFits p = IsNumber p.0 × Fits p.1

  abbrev pair_tokens : ℕ × B → Line
  pair_tokens p = decimal p.0 ∷ text p.1 ∷ []

  abbrev ArePairs : Line → List (ℕ × B) → Type 0
  ArePairs ts ps = (ts ≡ flat_map pair_tokens ps) × AllByRecursion PairFits ps

  pairs_takes : (ts : Line) (ps : List (ℕ × B)) → pairs_by f ts ≡ Some ps → ArePairs ts ps
  pairs_takes [] ps e = subst (ArePairs []) (some_is [] ps e) (refl, tt)
  pairs_takes (t ∷ []) ps e = absurd cc
  pairs_takes (t ∷ (u ∷ ts)) ps e =
      let k = both_some (λ p ps. p ∷ ps) (both (λ n b. (n, b)) (number_of t) (f u)) (pairs_by f ts) ps e in
      let p = both_some (λ n b. (n, b)) (number_of t) (f u) k.0 k.2 in
      let m = number_takes t p.0 p.2 in
      let b = f_takes u p.1 p.3 in
      let r = pairs_takes ts k.1 k.3 in
      let line : t ∷ (u ∷ ts) ≡ decimal p.0 ∷ (text p.1 ∷ flat_map pair_tokens k.1) = cc (m.0, b.0, r.0) in
      let made : ArePairs (t ∷ (u ∷ ts)) ((p.0, p.1) ∷ k.1) = (line, ((m.1, b.1), r.1)) in
      subst (ArePairs (t ∷ (u ∷ ts))) k.4 (subst (λ (q : ℕ × B). ArePairs (t ∷ (u ∷ ts)) (q ∷ k.1)) p.4 made)

  pairs_again : (ps : List (ℕ × B)) → AllByRecursion PairFits ps → pairs_by f (flat_map pair_tokens ps) ≡ Some ps
  pairs_again [] h = refl
  pairs_again (p ∷ ps) h =
      let first = h.0 in
      both_of (λ q qs. q ∷ qs) (both (λ n b. (n, b)) (number_of (decimal p.0)) (f (text p.1))) (pairs_by f (flat_map pair_tokens ps)) p ps
      (both_of (λ n b. (n, b)) (number_of (decimal p.0)) (f (text p.1)) p.0 p.1 (number_again p.0 first.0) (f_again p.1 first.1))
      (pairs_again ps h.1)

abbrev FitsI64 : ℤ → Type 0
FitsI64 z = FitsSigned w64 z

-- ---- rows

row_after_takes : (ts : Line) (r : Row) → row_after ts ≡ Some r → (ts ≡ signed_decimal r.constant ∷ flat_map (λ p. decimal p.0 ∷ signed_decimal p.1 ∷ []) r.pairs) × IsRow r
row_after_takes [] r e = absurd cc
row_after_takes (t ∷ ts) r e = canonical (both made_row (integer_of t) (pairs_by integer_of ts)) refl e
  where
    canonical : (o : Option Row) → both made_row (integer_of t) (pairs_by integer_of ts) ≡ o → if_canonical o ≡ Some r → (t ∷ ts ≡ signed_decimal r.constant ∷ flat_map (λ p. decimal p.0 ∷ signed_decimal p.1 ∷ []) r.pairs) × IsRow r
    canonical None p q = absurd cc
    canonical (Some x) p q =
        let c = if_some (is_canonical x.pairs) x r q in
        let k = both_some made_row (integer_of t) (pairs_by integer_of ts) x p in
        let z = integer_takes t k.0 k.2 in
        let ps = pairs_takes integer_of signed_decimal FitsI64 integer_takes integer_again ts k.1 k.3 in
        let pairs_is : k.1 ≡ r.pairs = ap (λ (y : Row). y.pairs) (k.4 ∙ c.1) in
        let constant_is : k.0 ≡ r.constant = ap (λ (y : Row). y.constant) (k.4 ∙ c.1) in
        let line : t ∷ ts ≡ signed_decimal k.0 ∷ flat_map (λ p. decimal p.0 ∷ signed_decimal p.1 ∷ []) k.1 = cc (z.0, ps.0) in (
          line ∙ ap (λ (y : ℤ). signed_decimal y ∷ flat_map (λ p. decimal p.0 ∷ signed_decimal p.1 ∷ []) k.1) constant_is ∙ ap (λ (qs : List (ℕ × ℤ)). signed_decimal r.constant ∷ flat_map (λ p. decimal p.0 ∷ signed_decimal p.1 ∷ []) qs) pairs_is,
          record {
            constant = subst FitsI64 constant_is z.1;
            canonical = subst (λ (y : Row). IsCanonical y.pairs) c.1 (canonical_is x.pairs c.0);
            pairs = subst (AllByRecursion IsPair) pairs_is ps.1;
          },
        )

pub row_takes : (line : Line) (r : Row) → row_of line ≡ Some r → (line ≡ row_line r) × IsRow r
unfolding row_of
row_takes line r e =
    let k = and_some row_after (tail_of (codes "row") line) r e in
    let m = row_after_takes k.0 r k.2 in
    (tail_takes (codes "row") line k.0 k.1 ∙ ap (λ (us : Line). codes "row" ∷ us) m.0, m.1)

pub row_again : (r : Row) → IsRow r → row_of (row_line r) ≡ Some r
unfolding row_of
row_again r h =
    let ts : Line = flat_map (λ p. decimal p.0 ∷ signed_decimal p.1 ∷ []) r.pairs in
    ap (option_and_then row_after) (tail_again (codes "row") (signed_decimal r.constant ∷ ts))
    ∙ ap if_canonical (both_of made_row (integer_of (signed_decimal r.constant)) (pairs_by integer_of ts) r.constant r.pairs (integer_again r.constant h.constant) (pairs_again integer_of signed_decimal FitsI64 integer_takes integer_again r.pairs h.pairs))
    ∙ ap (λ b. cond b (Some r) None) (is_canonical_of r.pairs h.canonical)

pub after_is : (before : Option Row) (r : Row) → is_after before r ≡ true → IsAfter before r
after_is None r e = tt
after_is (Some b) r e = e

pub is_after_of : (before : Option Row) (r : Row) → IsAfter before r → is_after before r ≡ true
is_after_of None r h = refl
is_after_of (Some b) r h = h

-- a row that may stand behind another, with n more to come
pub record Fitting (n : ℕ) (before : Option Row) (r : Row) : Type 0 where
  pub row : IsRow r
  pub after : IsAfter before r
  pub room : has_room n r.pairs ≡ true

pub next_row_takes : (n : ℕ) (before : Option Row) (line : Line) (r : Row) → next_row_of n before line ≡ Some r → (line ≡ row_line r) × Fitting n before r
unfolding next_row_of
next_row_takes n before line r e = by_row (row_of line) refl e
  where
    by_row : (o : Option Row) → row_of line ≡ o → fitting n before o ≡ Some r → (line ≡ row_line r) × Fitting n before r
    by_row None p q = absurd cc
    by_row (Some x) p q = by_tests (is_after before x) (has_room n x.pairs) refl refl q
      where
        by_tests : (a b : Bool) → is_after before x ≡ a → has_room n x.pairs ≡ b → cond (a && b) (Some x) None ≡ Some r → (line ≡ row_line r) × Fitting n before r
        by_tests false b s t k = absurd cc
        by_tests true false s t k = absurd cc
        by_tests true true s t k =
            let m = row_takes line x p in
            let made : (line ≡ row_line x) × Fitting n before x = (m.0, record { row = m.1; after = after_is before x s; room = t }) in
            subst (λ (y : Row). (line ≡ row_line y) × Fitting n before y) (some_is x r k) made

pub next_row_again : (n : ℕ) (before : Option Row) (r : Row) → Fitting n before r → next_row_of n before (row_line r) ≡ Some r
unfolding next_row_of
next_row_again n before r h = ap (fitting n before) (row_again r h.row) ∙ ap (λ b. cond (b && has_room n r.pairs) (Some r) None) (is_after_of before r h.after) ∙ ap (λ b. cond b (Some r) None) h.room

-- ---- steps

step_after_takes : (ts : Line) (s : Step) → step_after ts ≡ Some s → (ts ≡ decimal s.d ∷ flat_map (λ p. decimal p.0 ∷ decimal p.1 ∷ []) s.parts) × IsStep s
step_after_takes [] s e = absurd cc
step_after_takes (t ∷ ts) s e =
    let k = both_some made_step (number_of t) (pairs_by number_of ts) s e in
    let m = number_takes t k.0 k.2 in
    let ps = pairs_takes number_of decimal IsNumber number_takes number_again ts k.1 k.3 in
    let line : t ∷ ts ≡ decimal k.0 ∷ flat_map (λ p. decimal p.0 ∷ decimal p.1 ∷ []) k.1 = cc (m.0, ps.0) in
    subst (λ (y : Step). (t ∷ ts ≡ decimal y.d ∷ flat_map (λ p. decimal p.0 ∷ decimal p.1 ∷ []) y.parts) × IsStep y) k.4 (line, (m.1, ps.1))

pub step_takes : (line : Line) (s : Step) → step_of line ≡ Some s → (line ≡ step_line s) × IsStep s
unfolding step_of
step_takes line s e =
    let k = and_some step_after (tail_of (codes "step") line) s e in
    let m = step_after_takes k.0 s k.2 in
    (tail_takes (codes "step") line k.0 k.1 ∙ ap (λ (us : Line). codes "step" ∷ us) m.0, m.1)

pub step_again : (s : Step) → IsStep s → step_of (step_line s) ≡ Some s
unfolding step_of
step_again s h =
    let ts : Line = flat_map (λ p. decimal p.0 ∷ decimal p.1 ∷ []) s.parts in
    ap (option_and_then step_after) (tail_again (codes "step") (decimal s.d ∷ ts))
    ∙ both_of made_step (number_of (decimal s.d)) (pairs_by number_of ts) s.d s.parts (number_again s.d h.0) (pairs_again number_of decimal IsNumber number_takes number_again s.parts h.1)

-- ---- statements

abbrev pub at_line : ℕ → ℕ → Line
at_line n rows = codes "at" ∷ decimal n ∷ decimal rows ∷ []

rows_after_takes : (n : ℕ) (ts : Line) (rows : ℕ) → rows_after n ts ≡ Some rows → (ts ≡ decimal n ∷ decimal rows ∷ []) × IsNumber n × IsNumber rows
rows_after_takes n [] rows e = absurd cc
rows_after_takes n (t ∷ []) rows e = absurd cc
rows_after_takes n (t ∷ (u ∷ (v ∷ vs))) rows e = absurd cc
rows_after_takes n (t ∷ (u ∷ [])) rows e = by_test (is_number n (number_of t)) refl e
  where
    by_test : (b : Bool) → is_number n (number_of t) ≡ b → cond b (number_of u) None ≡ Some rows → (t ∷ (u ∷ []) ≡ decimal n ∷ decimal rows ∷ []) × IsNumber n × IsNumber rows
    by_test false p q = absurd cc
    by_test true p q =
        let a = number_takes t n (number_is n (number_of t) p) in
        let b = number_takes u rows q in
        let line : t ∷ (u ∷ []) ≡ decimal n ∷ decimal rows ∷ [] = cc (a.0, b.0) in
        (line, a.1, b.1)

pub at_takes : (n : ℕ) (line : Line) (rows : ℕ) → at_of n line ≡ Some rows → (line ≡ at_line n rows) × IsNumber n × IsNumber rows
unfolding at_of
at_takes n line rows e =
    let k = and_some (rows_after n) (tail_of (codes "at") line) rows e in
    let m = rows_after_takes n k.0 rows k.2 in
    (tail_takes (codes "at") line k.0 k.1 ∙ ap (λ (us : Line). codes "at" ∷ us) m.0, m.1, m.2)

pub at_again : (n rows : ℕ) → IsNumber n → IsNumber rows → at_of n (at_line n rows) ≡ Some rows
unfolding at_of
at_again n rows h k =
    ap (option_and_then (rows_after n)) (tail_again (codes "at") (decimal n ∷ decimal rows ∷ []))
    ∙ ap (λ o. cond (is_number n o) (number_of (decimal rows)) None) (number_again n h)
    ∙ ap (λ b. cond b (number_of (decimal rows)) None) (is_number_of n) ∙ number_again rows k

abbrev pub ArePicks : List ℕ → Type 0
ArePicks picks = IsNumber (length picks) × AllByRecursion IsNumber picks

counted_takes : (o : Option ℕ) (p : Option (List ℕ)) (xs : List ℕ) → counted o p ≡ Some xs → (o ≡ Some (length xs)) × (p ≡ Some xs)
counted_takes None p xs e = absurd cc
counted_takes (Some n) None xs e = absurd cc
counted_takes (Some n) (Some ys) xs e =
    let k = if_some (n == length ys) ys xs e in
    let same : n ≡ length ys = eqb-true n (length ys) k.0 in
    (ap (λ (m : ℕ). Some m) (same ∙ ap length k.1), ap (λ (zs : List ℕ). Some zs) k.1)

counted_numbers_takes : (ts : Line) (picks : List ℕ) → counted_numbers ts ≡ Some picks → (ts ≡ decimal (length picks) ∷ map decimal picks) × ArePicks picks
counted_numbers_takes [] picks e = absurd cc
counted_numbers_takes (t ∷ ts) picks e =
    let k = counted_takes (number_of t) (numbers_of ts) picks e in
    let m = number_takes t (length picks) k.0 in
    let r = numbers_takes ts picks k.1 in
    let line : t ∷ ts ≡ decimal (length picks) ∷ map decimal picks = cc (m.0, r.0) in
    (line, (m.1, r.1))

pub picks_takes : (line : Line) (picks : List ℕ) → picks_of line ≡ Some picks → (line ≡ picks_line picks) × ArePicks picks
unfolding picks_of
picks_takes line picks e =
    let k = and_some counted_numbers (tail_of (codes "picks") line) picks e in
    let m = counted_numbers_takes k.0 picks k.2 in
    (tail_takes (codes "picks") line k.0 k.1 ∙ ap (λ (us : Line). codes "picks" ∷ us) m.0, m.1)

pub picks_again : (picks : List ℕ) → ArePicks picks → picks_of (picks_line picks) ≡ Some picks
unfolding picks_of
picks_again picks h =
    ap (option_and_then counted_numbers) (tail_again (codes "picks") (decimal (length picks) ∷ map decimal picks))
    ∙ ap (λ o. counted o (numbers_of (map decimal picks))) (number_again (length picks) h.0)
    ∙ ap (λ o. counted (Some (length picks)) o) (numbers_again picks h.1)
    ∙ ap (λ b. cond b (Some picks) None) (eq-eqb (length picks) (length picks) refl)

-- ---- blocks

abbrev pub proc_line : List ℕ → ℕ → Line
proc_line name n = codes "proc" ∷ name ∷ decimal n ∷ []

named_takes : (ts : Line) (p : List ℕ × ℕ) → named ts ≡ Some p → (ts ≡ p.0 ∷ decimal p.1 ∷ []) × IsName p.0 × IsNumber p.1
named_takes [] p e = absurd cc
named_takes (t ∷ []) p e = absurd cc
named_takes (t ∷ (u ∷ (v ∷ vs))) p e = absurd cc
named_takes (t ∷ (u ∷ [])) p e = by_test (is_name t) refl e
  where
    by_test : (b : Bool) → is_name t ≡ b → cond b (option_map (λ n. (t, n)) (number_of u)) None ≡ Some p → (t ∷ (u ∷ []) ≡ p.0 ∷ decimal p.1 ∷ []) × IsName p.0 × IsNumber p.1
    by_test false h q = absurd cc
    by_test true h q =
        let k = map_some (λ n. (t, n)) (number_of u) p q in
        let m = number_takes u k.0 k.1 in
        let line : t ∷ (u ∷ []) ≡ t ∷ (decimal k.0 ∷ []) = cc m.0 in
        subst (λ (x : List ℕ × ℕ). (t ∷ (u ∷ []) ≡ x.0 ∷ decimal x.1 ∷ []) × IsName x.0 × IsNumber x.1) k.2 (line, h, m.1)

pub block_takes : (line : Line) (p : List ℕ × ℕ) → block_of line ≡ Some p → (line ≡ proc_line p.0 p.1) × IsName p.0 × IsNumber p.1
unfolding block_of
block_takes line p e =
    let k = and_some named (tail_of (codes "proc") line) p e in
    let m = named_takes k.0 p k.2 in
    (tail_takes (codes "proc") line k.0 k.1 ∙ ap (λ (us : Line). codes "proc" ∷ us) m.0, m.1, m.2)

pub block_again : (name : List ℕ) (n : ℕ) → IsName name → IsNumber n → block_of (proc_line name n) ≡ Some (name, n)
unfolding block_of
block_again name n h k =
    ap (option_and_then named) (tail_again (codes "proc") (name ∷ decimal n ∷ []))
    ∙ ap (λ b. cond b (option_map (λ m. (name, m)) (number_of (decimal n))) None) h
    ∙ ap (option_map (λ m. (name, m))) (number_again n k)
