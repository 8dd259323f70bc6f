-- The tests of specs/Proof say what the statements of specs/Steps do.
use Rattle.std.proofs.Common.{◌≡◌, ◌↔◌, ℕ, ◌<◌, ◌≤◌, ◌-◌, ℤ, pos, negsuc, ◌+ℤ◌, ◌*ℤ◌, ◌≤ℤ◌, neg_ℤ, List, [], ◌∷◌, ◌⊎◌, inl, inr, Bool, true, false, refl, sym, subst, ◌∙◌, ap, arith, length, slice_index_or, suc, eqb-true, eq-eqb}
use Rattle.std.specs.Prelude.{int_le, nat_le, nat_lt, ◌&&◌, ◌||◌, ◌==◌}
use Rattle.std.specs.Ordering.{int_eq}
use Rattle.std.specs.List.{All, list_any}
use Rattle.std.proofs.lemmas.Int.{ints}
use Rattle.std.proofs.lemmas.Bool.{and_parts, and_from, or_cases, or_left, or_right, leb-true, le-leb, ltb-true, lt-ltb, false≢true}
use Rattle.std.proofs.lemmas.Bool.Decides.{Decides-int_eq}
use Rattle.std.proofs.lemmas.List.Folds.{Any-from_list_any, list_any-from_Any}
use Rattle.std.proofs.lemmas.List.Elements.{All-nil, All-cons, All-head, All-weaker}
use Rattle.cv_num.specs.declared.rows.Row.{Row}
use Rattle.cv_num.specs.declared.rows.Wide.{Wide}
use Rattle.cv_num.specs.Pairs.{IsCanonical, coefficient_of}
use Rattle.cv_num.specs.Rows.{as_row}
use Rattle.cv_num.specs.Algebra.{is_natural, number, number_in, number_of, same_pairs, times, negative, zero_row, ◌⊕◌, ◌⊖◌}
use Rattle.cv_num.specs.Values.{plus-coefficient, times-coefficient, negative-coefficient}
use Rattle.cv_num.specs.Canonical.{plus-canonical, minus-canonical}
use Rattle.cv_num.specs.Coefficients.{same_canonical}
use Rattle.cv_num.specs.Whole.{minus_one-*}
use Rattle.cv_farkas.specs.Parts.{sum_of_parts}
use Rattle.cv_farkas.specs.Covers.{AreParts, IsCovered, minus_one}
use Rattle.cv_farkas.specs.Steps.{Holds, IsDirect}
use Rattle.cv_farkas.specs.Proof.{shows, direct, combination, covers, are_parts, holds}
use Rattle.cv_farkas.specs.declared.steps.Step.{Step}

-- ---- a number of at least 0
natural_in : (ps : List (ℕ × ℤ)) (z : ℤ) → is_natural (number_in ps z) ≡ true → (ps ≡ []) × (pos 0 ≤ℤ z)
natural_in [] z e = (refl, grind (arith, ints))
natural_in (x ∷ ps) z e = absurd (false≢true e)

pub natural : (a : Row) → is_natural (number_of a) ≡ true → (a.pairs ≡ []) × (pos 0 ≤ℤ a.constant)
natural a e = natural_in a.pairs a.constant e

from_natural_in : (ps : List (ℕ × ℤ)) (z : ℤ) → ps ≡ [] → pos 0 ≤ℤ z → is_natural (number_in ps z) ≡ true
from_natural_in [] z e h = grind (arith, ints)
from_natural_in (x ∷ ps) z e h = cc

pub from_natural : (a : Row) → a.pairs ≡ [] → pos 0 ≤ℤ a.constant → is_natural (number_of a) ≡ true
from_natural a e h = from_natural_in a.pairs a.constant e h

-- ---- the sum of the parts
combination-canonical : (hyps : List Row) (ps : List (ℕ × ℕ)) → IsCanonical (combination hyps ps).pairs
combination-canonical hyps [] = tt
combination-canonical hyps (p ∷ ps) = plus-canonical (times (pos p.1) (slice_index_or hyps p.0 zero_row)) (combination hyps ps) (combination-canonical hyps ps)

combination-coefficient : (hyps : List Row) (ps : List (ℕ × ℕ)) (u : ℕ) → coefficient_of (combination hyps ps).pairs u ≡ sum_of_parts (λ r. coefficient_of r.pairs u) hyps ps
combination-coefficient hyps [] u = refl
combination-coefficient hyps (p ∷ ps) u =
    let r : Row = slice_index_or hyps p.0 zero_row in
    plus-coefficient (times (pos p.1) r) (combination hyps ps) u ∙ omega (arith, ints, times-coefficient (pos p.1) r u, combination-coefficient hyps ps u)

combination-constant : (hyps : List Row) (ps : List (ℕ × ℕ)) → (combination hyps ps).constant ≡ sum_of_parts (λ r. r.constant) hyps ps
combination-constant hyps [] = refl
combination-constant hyps (p ∷ ps) = ap (λ z. (pos p.1 *ℤ (slice_index_or hyps p.0 zero_row).constant) +ℤ z) (combination-constant hyps ps)

-- d * goal + (d - 1) less the sum of the parts
abbrev difference : List Row → Row → ℕ → List (ℕ × ℕ) → Row
difference hyps goal d ps = times (pos d) goal ⊕ number (pos (d - 1)) ⊖ combination hyps ps

difference-coefficient : (hyps : List Row) (goal : Row) (d : ℕ) (ps : List (ℕ × ℕ)) (u : ℕ) →
    coefficient_of (difference hyps goal d ps).pairs u ≡ (pos d *ℤ coefficient_of goal.pairs u) +ℤ neg_ℤ (sum_of_parts (λ r. coefficient_of r.pairs u) hyps ps)
difference-coefficient hyps goal d ps u =
    plus-coefficient (times (pos d) goal ⊕ number (pos (d - 1))) (negative (combination hyps ps)) u
    ∙ omega (arith, ints, plus-coefficient (times (pos d) goal) (number (pos (d - 1))) u, times-coefficient (pos d) goal u, negative-coefficient (combination hyps ps) u, ap neg_ℤ (combination-coefficient hyps ps u))

difference-constant : (hyps : List Row) (goal : Row) (d : ℕ) (ps : List (ℕ × ℕ)) →
    (difference hyps goal d ps).constant ≡ (pos d *ℤ goal.constant +ℤ pos (d - 1)) +ℤ neg_ℤ (sum_of_parts (λ r. r.constant) hyps ps)
difference-constant hyps goal d ps =
    ap (λ z. (pos d *ℤ goal.constant +ℤ pos (d - 1)) +ℤ z) (minus_one-* (combination hyps ps).constant ∙ ap neg_ℤ (combination-constant hyps ps))

difference-canonical : (hyps : List Row) (goal : Row) (d : ℕ) (ps : List (ℕ × ℕ)) → IsCanonical (difference hyps goal d ps).pairs
difference-canonical hyps goal d ps = minus-canonical (times (pos d) goal ⊕ number (pos (d - 1))) (combination hyps ps) (combination-canonical hyps ps)

pub covered : (hyps : List Row) (goal : Wide) (d : ℕ) (ps : List (ℕ × ℕ)) → covers hyps (as_row goal) d ps ≡ true → IsCovered hyps goal d ps
covered hyps goal d ps e =
    let h = natural (difference hyps (as_row goal) d ps) e in
    record {
      coefficients = λ u. equal_from (pos d *ℤ coefficient_of goal.pairs u) (sum_of_parts (λ r. coefficient_of r.pairs u) hyps ps)
          (sym (difference-coefficient hyps (as_row goal) d ps u) ∙ ap (λ (xs : List (ℕ × ℤ)). coefficient_of xs u) h.0);
      constant = at_most_from (pos d *ℤ goal.constant +ℤ pos (d - 1)) (sum_of_parts (λ r. r.constant) hyps ps) (difference hyps (as_row goal) d ps).constant (difference-constant hyps (as_row goal) d ps) h.1;
    }
  where
    equal_from : (x y : ℤ) → x +ℤ neg_ℤ y ≡ pos 0 → x ≡ y
    equal_from x y e = omega (arith, ints)

    at_most_from : (x y z : ℤ) → z ≡ x +ℤ neg_ℤ y → pos 0 ≤ℤ z → y ≤ℤ x
    at_most_from x y z e l = omega (arith, ints)

pub from_covered : (hyps : List Row) (goal : Wide) (d : ℕ) (ps : List (ℕ × ℕ)) → IsCovered hyps goal d ps → covers hyps (as_row goal) d ps ≡ true
from_covered hyps goal d ps h =
    from_natural (difference hyps (as_row goal) d ps)
    (same_canonical (difference hyps (as_row goal) d ps).pairs [] (difference-canonical hyps (as_row goal) d ps) tt
    (λ u. difference-coefficient hyps (as_row goal) d ps u ∙ zero_from (pos d *ℤ coefficient_of goal.pairs u) (sum_of_parts (λ r. coefficient_of r.pairs u) hyps ps) (h.coefficients u)))
    (at_least_from (pos d *ℤ goal.constant +ℤ pos (d - 1)) (sum_of_parts (λ r. r.constant) hyps ps) (difference hyps (as_row goal) d ps).constant (difference-constant hyps (as_row goal) d ps) h.constant)
  where
    zero_from : (x y : ℤ) → x ≡ y → x +ℤ neg_ℤ y ≡ pos 0
    zero_from x y e = omega (arith, ints)

    at_least_from : (x y z : ℤ) → z ≡ x +ℤ neg_ℤ y → y ≤ℤ x → pos 0 ≤ℤ z
    at_least_from x y z e l = omega (arith, ints)

-- ---- the ranges of the parts
parts_from : (least n : ℕ) (ps : List (ℕ × ℕ)) → are_parts least n ps ≡ true → All (λ p. least ≤ p.0) ps × AreParts n ps
parts_from least n [] e = (All-nil (λ p. least ≤ p.0), tt)
parts_from least n (p ∷ ps) e =
    let a = and_parts (nat_le least p.0 && nat_lt p.0 n && nat_le 1 p.1 && nat_le p.1 2147483647) (are_parts (suc p.0) n ps) e in
    let b = and_parts (nat_le least p.0 && nat_lt p.0 n && nat_le 1 p.1) (nat_le p.1 2147483647) a.0 in
    let c = and_parts (nat_le least p.0 && nat_lt p.0 n) (nat_le 1 p.1) b.0 in
    let d = and_parts (nat_le least p.0) (nat_lt p.0 n) c.0 in
    let more = parts_from (suc p.0) n ps a.1 in
    let l : least ≤ p.0 = leb-true least p.0 d.0 in (
      All-cons (λ q. least ≤ q.0) p ps l (All-weaker (λ q. suc p.0 ≤ q.0) (λ q. least ≤ q.0) (λ q h. omega arith) ps more.0),
      (ltb-true p.0 n d.1, leb-true 1 p.1 c.1, leb-true p.1 2147483647 b.1, All-weaker (λ q. suc p.0 ≤ q.0) (λ q. p.0 < q.0) (λ q h. omega arith) ps more.0, more.1),
    )

from_parts : (least n : ℕ) (ps : List (ℕ × ℕ)) → All (λ p. least ≤ p.0) ps → AreParts n ps → are_parts least n ps ≡ true
from_parts least n [] a h = refl
from_parts least n (p ∷ ps) a h =
    and_from (nat_le least p.0 && nat_lt p.0 n && nat_le 1 p.1 && nat_le p.1 2147483647) (are_parts (suc p.0) n ps)
    (and_from (nat_le least p.0 && nat_lt p.0 n && nat_le 1 p.1) (nat_le p.1 2147483647)
    (and_from (nat_le least p.0 && nat_lt p.0 n) (nat_le 1 p.1)
    (and_from (nat_le least p.0) (nat_lt p.0 n) (le-leb least p.0 (All-head (λ q. least ≤ q.0) p ps a)) (lt-ltb p.0 n h.0)) (le-leb 1 p.1 h.1)) (le-leb p.1 2147483647 h.2))
    (from_parts (suc p.0) n ps (All-weaker (λ q. p.0 < q.0) (λ q. suc p.0 ≤ q.0) (λ q k. omega arith) ps h.3) h.4)

-- ---- the step
pub holds_from : (hyps : List Row) (goal : Wide) (s : Step) → holds hyps (as_row goal) s ≡ true → Holds hyps goal s
holds_from hyps goal s e =
    let a = and_parts (nat_le (length hyps) 4096 && nat_le 1 s.d && nat_le s.d 65535 && are_parts 0 (length hyps) s.parts) (covers hyps (as_row goal) s.d s.parts || ((s.d == 1) && covers hyps (number (negsuc 0)) 1 s.parts)) e in
    let b = and_parts (nat_le (length hyps) 4096 && nat_le 1 s.d && nat_le s.d 65535) (are_parts 0 (length hyps) s.parts) a.0 in
    let c = and_parts (nat_le (length hyps) 4096 && nat_le 1 s.d) (nat_le s.d 65535) b.0 in
    let d = and_parts (nat_le (length hyps) 4096) (nat_le 1 s.d) c.0 in (
      record { few = leb-true (length hyps) 4096 d.0; positive = leb-true 1 s.d d.1; at_most = leb-true s.d 65535 c.1; listed = (parts_from 0 (length hyps) s.parts b.1).1 },
      either (or_cases (covers hyps (as_row goal) s.d s.parts) ((s.d == 1) && covers hyps (number (negsuc 0)) 1 s.parts) a.1),
    )
  where
    either : (covers hyps (as_row goal) s.d s.parts ≡ true) ⊎ (((s.d == 1) && covers hyps (number (negsuc 0)) 1 s.parts) ≡ true) → IsCovered hyps goal s.d s.parts ⊎ ((s.d ≡ 1) × IsCovered hyps minus_one 1 s.parts)
    either (inl h) = inl (covered hyps goal s.d s.parts h)
    either (inr h) =
        let k = and_parts (s.d == 1) (covers hyps (number (negsuc 0)) 1 s.parts) h in inr (eqb-true s.d 1 k.0, covered hyps minus_one 1 s.parts k.1)

pub from_holds : (hyps : List Row) (goal : Wide) (s : Step) → Holds hyps goal s → holds hyps (as_row goal) s ≡ true
from_holds hyps goal s h =
    and_from (nat_le (length hyps) 4096 && nat_le 1 s.d && nat_le s.d 65535 && are_parts 0 (length hyps) s.parts) (covers hyps (as_row goal) s.d s.parts || ((s.d == 1) && covers hyps (number (negsuc 0)) 1 s.parts))
    (and_from (nat_le (length hyps) 4096 && nat_le 1 s.d && nat_le s.d 65535) (are_parts 0 (length hyps) s.parts)
    (and_from (nat_le (length hyps) 4096 && nat_le 1 s.d) (nat_le s.d 65535)
    (and_from (nat_le (length hyps) 4096) (nat_le 1 s.d) (le-leb (length hyps) 4096 h.0.few) (le-leb 1 s.d h.0.positive)) (le-leb s.d 65535 h.0.at_most))
    (from_parts 0 (length hyps) s.parts (λ k d l. omega arith) h.0.listed))
    (either h.1)
  where
    either : IsCovered hyps goal s.d s.parts ⊎ ((s.d ≡ 1) × IsCovered hyps minus_one 1 s.parts) → (covers hyps (as_row goal) s.d s.parts || ((s.d == 1) && covers hyps (number (negsuc 0)) 1 s.parts)) ≡ true
    either (inl c) = or_left (covers hyps (as_row goal) s.d s.parts) ((s.d == 1) && covers hyps (number (negsuc 0)) 1 s.parts) (from_covered hyps goal s.d s.parts c)
    either (inr c) =
        or_right (covers hyps (as_row goal) s.d s.parts) ((s.d == 1) && covers hyps (number (negsuc 0)) 1 s.parts)
        (and_from (s.d == 1) (covers hyps (number (negsuc 0)) 1 s.parts) (eq-eqb s.d 1 c.0) (from_covered hyps minus_one 1 s.parts c.1))

-- ---- direct goals
int_eq-true : (a b : ℤ) → int_eq a b ≡ true → a ≡ b
int_eq-true a b e = (Decides-int_eq a b).0 e

int_eq-self : (a : ℤ) → int_eq a a ≡ true
int_eq-self a = (Decides-int_eq a a).1 refl

pair_same : (x y : ℕ × ℤ) → x.0 ≡ y.0 → x.1 ≡ y.1 → x ≡ y
pair_same x y e f = let P : ℕ → ℤ → ℕ × ℤ = λ a b. (a, b) in ap (λ (a : ℕ). P a x.1) e ∙ ap (λ (b : ℤ). P y.0 b) f

same_pairs-true : (ps qs : List (ℕ × ℤ)) → same_pairs ps qs ≡ true → ps ≡ qs
same_pairs-true [] [] e = refl
same_pairs-true [] (q ∷ qs) e = absurd (false≢true e)
same_pairs-true (p ∷ ps) [] e = absurd (false≢true e)
same_pairs-true (p ∷ ps) (q ∷ qs) e =
    let a = and_parts ((p.0 == q.0) && int_eq p.1 q.1) (same_pairs ps qs) e in
    let b = and_parts (p.0 == q.0) (int_eq p.1 q.1) a.0 in
    ap (λ (z : ℕ × ℤ). z ∷ ps) (pair_same p q (eqb-true p.0 q.0 b.0) (int_eq-true p.1 q.1 b.1)) ∙ ap (λ (zs : List (ℕ × ℤ)). q ∷ zs) (same_pairs-true ps qs a.1)

same_pairs-self : (ps : List (ℕ × ℤ)) → same_pairs ps ps ≡ true
same_pairs-self [] = refl
same_pairs-self (p ∷ ps) =
    and_from ((p.0 == p.0) && int_eq p.1 p.1) (same_pairs ps ps) (and_from (p.0 == p.0) (int_eq p.1 p.1) (eq-eqb p.0 p.0 refl) (int_eq-self p.1)) (same_pairs-self ps)

same_pairs-equal : (ps qs : List (ℕ × ℤ)) → ps ≡ qs → same_pairs ps qs ≡ true
same_pairs-equal ps qs e = let P : List (ℕ × ℤ) → Type 0 = λ xs. same_pairs ps xs ≡ true in subst P e (same_pairs-self ps)

shows-true : (goal : Wide) (h : Row) → shows (as_row goal) h ≡ true → (h.pairs ≡ goal.pairs) × (h.constant ≤ℤ goal.constant)
shows-true goal h e =
    let a = and_parts (same_pairs h.pairs goal.pairs) (int_le h.constant goal.constant) e in (same_pairs-true h.pairs goal.pairs a.0, grind (arith, ints))

from_shown : (goal : Wide) (h : Row) → (h.pairs ≡ goal.pairs) × (h.constant ≤ℤ goal.constant) → shows (as_row goal) h ≡ true
from_shown goal h s = and_from (same_pairs h.pairs goal.pairs) (int_le h.constant goal.constant) (same_pairs-equal h.pairs goal.pairs s.0) (grind (arith, ints, s.1))

pub direct_from : (hyps : List Row) (goal : Wide) → direct hyps (as_row goal) ≡ true → IsDirect hyps goal
direct_from hyps goal e = either (or_cases (is_natural (number_of (as_row goal))) (list_any (shows (as_row goal)) hyps) e)
  where
    either : (is_natural (number_of (as_row goal)) ≡ true) ⊎ (list_any (shows (as_row goal)) hyps ≡ true) → IsDirect hyps goal
    either (inl h) = inl (natural (as_row goal) h)
    either (inr h) =
        let a = Any-from_list_any (shows (as_row goal)) hyps h in inr (a.0, a.1, a.2, a.3, shows-true goal a.1 a.4)

pub from_direct : (hyps : List Row) (goal : Wide) → IsDirect hyps goal → direct hyps (as_row goal) ≡ true
from_direct hyps goal (inl h) = or_left (is_natural (number_of (as_row goal))) (list_any (shows (as_row goal)) hyps) (from_natural (as_row goal) h.0 h.1)
from_direct hyps goal (inr a) =
    or_right (is_natural (number_of (as_row goal))) (list_any (shows (as_row goal)) hyps)
    (list_any-from_Any (shows (as_row goal)) hyps (a.0, a.1, a.2, a.3, from_shown goal a.1 a.4))

-- ---- two tests that say the same answer the same
pub same_answer : (b c : Bool) (P : Type 0) → ((b ≡ true) ↔ P) → (c ≡ true → P) → (P → c ≡ true) → b ≡ c
same_answer true c P h f g = sym (g (h.0 refl))
same_answer false true P h f g = h.1 (f refl)
same_answer false false P h f g = refl
