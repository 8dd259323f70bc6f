-- The blocks of globals and literals, as a walk over their names finds them.
use Rattle.std.proofs.Common.{refl, ℕ, suc, ◌≡◌, ◌<◌, ◌≤◌, ◌+◌, Bool, true, false, List, [], ◌∷◌, ◌++◌, length, Option, Some, None, ap, sym, ◌∙◌, arith, map, drop, take, slice_index_or, cond, inl, inr, nat_eq, nat_lt}
use Rattle.std.specs.List.{flat_map, position, position_or_len}
use Rattle.std.proofs.lemmas.Bool.{eq-eqb, le-ltb, lt-ltb, ltb-false, ltb-true}
use Rattle.std.proofs.lemmas.Bool.Decides.{eqb_tells}
use Rattle.std.specs.Option.{option_map}
use Rattle.std.proofs.lemmas.List.{drop-drop, get_or-drop}
use Rattle.cv_core.specs.Names.{stmts_of}
use Rattle.cv_ppts.specs.Allowed.{code_at}
use Rattle.cv_ppts.specs.Entities.{as_list, distinct, global_number, literal_in}
use Rattle.cv_ppts.specs.Keys.{keys, later_numbers, new_number, numbers}
use Rattle.cv_ppts.specs.Setting.{Setting, first_content, formal_count, global_code, listed, literal_code, literal_codes, literals}
use Rattle.cv_ppts.specs.declared.scope.Keys.TheVariants as of
use Rattle.cv_ppts.proofs.Keyed.{later_end, later_new, later_old, later_step}

numbers_map : {A : Type 0} (g : A → Option ℕ) (xs : List A) → numbers (map g xs) ≡ flat_map (λ x. as_list (g x)) xs
numbers_map g [] = refl
numbers_map g (x ∷ xs) = ap (λ ns. as_list (g x) ++ ns) (numbers_map g xs)

pub listed_is : (s : Setting) → distinct (numbers (keys s of.Listed)) ≡ listed s
listed_is s = ap distinct (numbers_map (global_number s.program) s.proc.contract.listed)

pub literals_is : (s : Setting) → distinct (numbers (keys s of.Literals)) ≡ literals s
literals_is s = ap distinct (numbers_map (λ x. literal_in s.program x.form) (stmts_of s.proc.body))

-- as a walk over the statements counts them
pub counted_literals : (s t : Setting) (n : ℕ) → n ≡ length (distinct (numbers (keys s of.Literals))) → s ≡ t → n ≡ length (literals t)
counted_literals s t n e f = e ∙ ap length (literals_is s) ∙ ap (λ x. length (literals x)) f

-- ---- codes

pub global_none : (s : Setting) (o : Option ℕ) (n : ℕ) (found : Option ℕ) → o ≡ Some n → found ≡ position (λ m. nat_eq m n) (distinct (numbers (keys s of.Listed))) → found ≡ None → 0 ≡ global_code s o
global_none s o n found e f none =
    sym (ap (global_code s) e ∙ ap (λ k. code_at s.codes (option_map (λ j. formal_count s + j) k)) (ap (position (λ m. nat_eq m n)) (sym (listed_is s)) ∙ sym f ∙ none))

pub global_some : (s : Setting) (o : Option ℕ) (n k v count : ℕ) (found : Option ℕ) → o ≡ Some n → found ≡ position (λ m. nat_eq m n) (distinct (numbers (keys s of.Listed))) → found ≡ Some k → count ≡ formal_count s →
    v ≡ slice_index_or s.codes (count + k) 0 → v ≡ global_code s o
global_some s o n k v count found e f some same is =
    is ∙ ap (λ c. slice_index_or s.codes (c + k) 0) same
    ∙ sym (ap (global_code s) e ∙ ap (λ k. code_at s.codes (option_map (λ j. formal_count s + j) k)) (ap (position (λ m. nat_eq m n)) (sym (listed_is s)) ∙ sym f ∙ some))

pub literal_none : (s : Setting) (o : Option ℕ) (n : ℕ) (found : Option ℕ) → o ≡ Some n → found ≡ position (λ m. nat_eq m n) (distinct (numbers (keys s of.Literals))) → found ≡ None → 0 ≡ literal_code s o
literal_none s o n found e f none =
    sym (ap (literal_code s) e ∙ ap (λ k. code_at s.codes (option_map (λ j. formal_count s + length (listed s) + j) k)) (ap (position (λ m. nat_eq m n)) (sym (literals_is s)) ∙ sym f ∙ none))

pub literal_some : (s : Setting) (o : Option ℕ) (n k v count more : ℕ) (left : List ℕ) (found : Option ℕ) → o ≡ Some n → found ≡ position (λ m. nat_eq m n) (distinct (numbers (keys s of.Literals))) → found ≡ Some k →
    count ≡ formal_count s → more ≡ length (distinct (numbers (keys s of.Listed))) → left ≡ drop count s.codes → v ≡ slice_index_or left (more + k) 0 → v ≡ literal_code s o
literal_some s o n k v count more left found e f some same long dropped is =
    let long_is : more ≡ length (listed s) = long ∙ ap length (listed_is s) in
    let whole : count + (more + k) ≡ formal_count s + length (listed s) + k = omega (arith, same, long_is) in
    is ∙ ap (λ xs. slice_index_or xs (more + k) 0) dropped ∙ get_or-drop count s.codes (more + k) 0 ∙ ap (λ j. slice_index_or s.codes j 0) whole
    ∙ sym (ap (literal_code s) e ∙ ap (λ k. code_at s.codes (option_map (λ j. formal_count s + length (listed s) + j) k)) (ap (position (λ m. nat_eq m n)) (sym (literals_is s)) ∙ sym f ∙ some))

pub literals_there : (s : Setting) (count more many : ℕ) (one two three : List ℕ) → count ≡ formal_count s → more ≡ length (distinct (numbers (keys s of.Listed))) → many ≡ length (literals s) →
    one ≡ drop count s.codes → two ≡ drop more one → three ≡ take many two → three ≡ literal_codes s
literals_there s count more many one two three a b c d e f =
    f ∙ ap (λ n. take n two) c
    ∙ ap (take (length (literals s))) (e ∙ ap (drop more) d ∙ drop-drop more count s.codes ∙ ap (λ n. drop n s.codes) (let g : more ≡ length (listed s) = b ∙ ap length (listed_is s) in let h : count + more ≡ formal_count s + length (listed s) = omega (arith, a, g) in h))

pub contents_there : (s : Setting) (count more many : ℕ) (one two three : List ℕ) → count ≡ formal_count s → more ≡ length (distinct (numbers (keys s of.Listed))) → many ≡ length (literals s) →
    one ≡ drop count s.codes → two ≡ drop more one → three ≡ drop many two → three ≡ drop (first_content s) s.codes
contents_there s count more many one two three a b c d e f =
    f ∙ ap (drop many) (e ∙ ap (drop more) d ∙ drop-drop more count s.codes) ∙ drop-drop many (count + more) s.codes
    ∙ ap (λ n. drop n s.codes) (let g : more ≡ length (listed s) = b ∙ ap length (listed_is s) in let h : many ≡ length (literals s) = c in let k : count + more + many ≡ first_content s = omega (arith, a, g, h) in k)

-- ---- counts

as_list_length : (o : Option ℕ) (ns : List ℕ) → length (as_list o ++ ns) ≡ length (as_list o) + length ns
as_list_length None ns = omega arith
as_list_length (Some n) ns = omega arith

pub count_step : (ks : List (Option ℕ)) (i count next all : ℕ) → i < length ks → next ≡ count + length (as_list (new_number ks i)) → (count + length (later_numbers ks i) ≡ all) × (count ≤ i) →
    (next + length (later_numbers ks (i + 1)) ≡ all) × (next ≤ i + 1)
count_step ks i count next all h e inv =
    let one : length (as_list (new_number ks i)) ≤ 1 = at_most (new_number ks i) in
    let step : length (later_numbers ks i) ≡ length (as_list (new_number ks i)) + length (later_numbers ks (suc i)) = ap length (later_step ks i h) ∙ as_list_length (new_number ks i) (later_numbers ks (suc i)) in
    let next_place : suc i ≡ i + 1 = omega arith in
    let there : length (later_numbers ks (suc i)) ≡ length (later_numbers ks (i + 1)) = ap (λ j. length (later_numbers ks j)) next_place in
    let before = inv.0 in
    let low = inv.1 in
    (omega (arith, e, step, there, before), omega (arith, e, one, low))
  where
    at_most : (o : Option ℕ) → length (as_list o) ≤ 1
    at_most None = omega arith
    at_most (Some n) = omega arith

-- ---- the place of a number

pub position_hit : (p : ℕ → Bool) (x : ℕ) (xs : List ℕ) → p x ≡ true → position p (x ∷ xs) ≡ Some 0
position_hit p x xs h = rw h (ap (λ c. cond c (Some 0) None) (lt-ltb 0 (suc (length xs)) (omega arith)))

pub position_miss : (p : ℕ → Bool) (x : ℕ) (xs : List ℕ) → p x ≡ false → position p (x ∷ xs) ≡ option_map suc (position p xs)
position_miss p x xs h = rw h (by_order (nat_lt (position_or_len p xs) (length xs)) refl)
  where
    by_order : (b : Bool) → b ≡ nat_lt (position_or_len p xs) (length xs) →
        cond (nat_lt (1 + position_or_len p xs) (suc (length xs))) (Some (1 + position_or_len p xs)) None ≡ option_map suc (cond b (Some (position_or_len p xs)) None)
    by_order true e =
        let h : position_or_len p xs < length xs = ltb-true (position_or_len p xs) (length xs) (sym e) in
        let one : 1 + position_or_len p xs ≡ suc (position_or_len p xs) = omega arith in
        ap (λ c. cond c (Some (1 + position_or_len p xs)) None) (lt-ltb (1 + position_or_len p xs) (suc (length xs)) (omega arith)) ∙ ap (λ n. Some n) one
    by_order false e =
        let h : length xs ≤ position_or_len p xs = ltb-false (position_or_len p xs) (length xs) (sym e) in
        ap (λ c. cond c (Some (1 + position_or_len p xs)) None) (le-ltb (1 + position_or_len p xs) (suc (length xs)) (omega arith))

moved : (count : ℕ) (o : Option ℕ) → option_map (λ k. count + k) (option_map suc o) ≡ option_map (λ k. count + 1 + k) o
moved count None = refl
moved count (Some k) = ap (λ n. Some n) (omega arith)

pub place_found : (ks : List (Option ℕ)) (i count n : ℕ) (new all : Option ℕ) → i < length ks → new ≡ new_number ks i → new ≡ Some n →
    option_map (λ k. count + k) (position (λ m. nat_eq m n) (later_numbers ks i)) ≡ all → Some count ≡ all
place_found ks i count n new all h e f inv =
    ap (λ k. Some k) (omega arith)
    ∙ ap (option_map (λ k. count + k)) (sym (ap (position (λ m. nat_eq m n)) (later_new ks i n (sym e ∙ f)) ∙ position_hit (λ m. nat_eq m n) n (later_numbers ks (i + 1)) (eq-eqb n n refl)))
    ∙ inv

pub place_passed : (ks : List (Option ℕ)) (i count next n : ℕ) (new all : Option ℕ) → i < length ks → new ≡ new_number ks i → (new ≡ Some n → ⊥) → next ≡ count + length (as_list new) →
    (option_map (λ k. count + k) (position (λ m. nat_eq m n) (later_numbers ks i)) ≡ all) × (count ≤ i) →
    (option_map (λ k. next + k) (position (λ m. nat_eq m n) (later_numbers ks (i + 1))) ≡ all) × (next ≤ i + 1)
place_passed ks i count next n None all h e f same inv =
    let low = inv.1 in
    let zero_more : next ≡ count = omega (arith, same) in (
      ap (λ c. option_map (λ k. c + k) (position (λ m. nat_eq m n) (later_numbers ks (i + 1)))) zero_more
          ∙ ap (λ ns. option_map (λ k. count + k) (position (λ m. nat_eq m n) ns)) (sym (later_old ks i (sym e))) ∙ inv.0,
      omega (arith, zero_more, low),
    )
place_passed ks i count next n (Some m) all h e f same inv =
    let low = inv.1 in
    let one_more : next ≡ count + 1 = omega (arith, same) in
    let other : nat_eq m n ≡ false = differs m n (λ g. f (ap (λ k. Some k) g)) in (
      ap (λ c. option_map (λ k. c + k) (position (λ j. nat_eq j n) (later_numbers ks (i + 1)))) one_more
          ∙ sym (moved count (position (λ j. nat_eq j n) (later_numbers ks (i + 1))))
          ∙ ap (option_map (λ k. count + k)) (sym (ap (position (λ j. nat_eq j n)) (later_new ks i m (sym e)) ∙ position_miss (λ j. nat_eq j n) m (later_numbers ks (i + 1)) other))
          ∙ inv.0,
      omega (arith, one_more, low),
    )
  where
    differs : (a b : ℕ) → (a ≡ b → ⊥) → nat_eq a b ≡ false
    differs a b g = elim (eqb_tells a b) [ inl (x, y) ↦ absurd (g y) | inr (x, y) ↦ x ]

pub place_missed : (ks : List (Option ℕ)) (i count n : ℕ) (all : Option ℕ) → length ks ≤ i → option_map (λ k. count + k) (position (λ m. nat_eq m n) (later_numbers ks i)) ≡ all → None ≡ all
place_missed ks i count n all h inv = ap (λ ns. option_map (λ k. count + k) (position (λ m. nat_eq m n) ns)) (sym (later_end ks i h)) ∙ inv

pub count_end : (ks : List (Option ℕ)) (i count all : ℕ) → length ks ≤ i → count + length (later_numbers ks i) ≡ all → count ≡ all
count_end ks i count all h inv = let none : length (later_numbers ks i) ≡ 0 = ap length (later_end ks i h) in omega (arith, none, inv)
