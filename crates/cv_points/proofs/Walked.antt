-- Walks over lists that stand behind each other, and the number of a cell that a walk finds.
use Rattle.std.proofs.Common.{◌≡◌, refl, ap, sym, ◌∙◌, ℕ, zero, suc, ◌+◌, ◌-◌, ◌<◌, ◌≤◌, Bool, true, false, List, [], ◌∷◌, ◌++◌, length, map, Option, Some, None, take, drop, arith, if◌then◌else◌, slice_index_or}
use Rattle.std.specs.Option.{option_map}
use Rattle.std.specs.List.{count_by, flat_map}
use Rattle.std.proofs.lemmas.Grind.{common_steps}
use Rattle.std.proofs.lemmas.List.{map-append}
use Rattle.std.proofs.lemmas.List.Sums.{sum_by-append, sum_by-cons}
use Rattle.std.proofs.Math.Seq.{take-length}
use Rattle.cv_core.specs.Names.{is_pointer_cell, objects_of}
use Rattle.cv_core.specs.declared.program.Local.{Local}
use Rattle.cv_core.specs.declared.program.Proc.{Proc}
use Rattle.cv_core.specs.declared.program.Program.{Program}
use Rattle.cv_points.specs.Holders.{cell_number, cells, global_cells, object_cells}
use Rattle.cv_points.specs.Walks.{found, then_walk, walk}
use Rattle.cv_points.specs.declared.walk.Walk.{Walk}
use Rattle.cv_points.specs.declared.walk.Walk.TheVariants as walked

pub walk-append : (xs ys : List Bool) (s n : ℕ) → walk (xs ++ ys) s n ≡ then_walk (walk xs s n) ys
walk-append [] ys s n = refl
walk-append (c ∷ cs) ys zero n = refl
walk-append (c ∷ cs) ys (suc s) n = walk-append cs ys s (if c then suc n else n)

-- ---- the number found

one_more : (b : Bool) (n a k : ℕ) → k ≡ 1 + a → option_map (λ m. suc n + m) (if b then Some a else None) ≡ option_map (λ m. n + m) (if b then Some k else None)
one_more true n a k e = let f : suc n + a ≡ n + k = omega arith in ap (λ m. Some m) f
one_more false n a k e = refl

none_more : (b : Bool) (n a k : ℕ) → k ≡ a → option_map (λ m. n + m) (if b then Some a else None) ≡ option_map (λ m. n + m) (if b then Some k else None)
none_more b n a k e = ap (λ m. option_map (λ m. n + m) (if b then Some m else None)) (sym e)

pub found-number : (cs : List Bool) (s n : ℕ) → found (walk cs s n) ≡ option_map (λ k. n + k) (cell_number cs s)
found-number [] s n = refl
found-number (true ∷ cs) zero n = grind (arith, common_steps)
found-number (false ∷ cs) zero n = refl
found-number (true ∷ cs) (suc s) n =
    found-number cs s (suc n)
    ∙ one_more (slice_index_or cs s false) n (count_by (λ c. c) (take s cs)) (count_by (λ c. c) (true ∷ take s cs)) (sum_by-cons (λ (c : Bool). if c then 1 else 0) true (take s cs))
found-number (false ∷ cs) (suc s) n =
    found-number cs s n
    ∙ none_more (slice_index_or cs s false) n (count_by (λ c. c) (take s cs)) (count_by (λ c. c) (false ∷ take s cs)) (let e : count_by (λ c. c) (false ∷ take s cs) ≡ 0 + count_by (λ c. c) (take s cs) = sum_by-cons (λ (c : Bool). if c then 1 else 0) false (take s cs) in omega (arith, e))

from_zero : (o : Option ℕ) → option_map (λ k. 0 + k) o ≡ o
from_zero None = refl
from_zero (Some k) = let e : 0 + k ≡ k = omega arith in ap (λ m. Some m) e

pub number-walk : (cs : List Bool) (s : ℕ) → cell_number cs s ≡ found (walk cs s 0)
number-walk cs s = sym (found-number cs s 0 ∙ from_zero (cell_number cs s))

-- ---- a list of literals

over_false : {X : Type 0} (xs : List X) (s n : ℕ) → s < length xs → walk (map (λ (x : X). false) xs) s n ≡ walked.Found None
over_false [] s n h = absurd (omega arith)
over_false (x ∷ xs) zero n h = refl
over_false (x ∷ xs) (suc s) n h = over_false xs s n (omega arith)

past_false : {X : Type 0} (xs : List X) (s n : ℕ) → length xs ≤ s → walk (map (λ (x : X). false) xs) s n ≡ walked.Past (s - length xs) n
past_false [] s n h = let e : s ≡ s - 0 = omega arith in ap (λ m. walked.Past m n) e
past_false (x ∷ xs) zero n h = absurd (omega arith)
past_false (x ∷ xs) (suc s) n h = let e : s - length xs ≡ suc s - suc (length xs) = omega arith in past_false xs s n (omega arith) ∙ ap (λ m. walked.Past m n) e

-- ---- three lists: globals, literals, objects

three : {X : Type 0} (A O : List Bool) (ls : List X) (s : ℕ) →
    cell_number (A ++ map (λ (x : X). false) ls ++ O) s ≡ found (then_walk (then_walk (walk A s 0) (map (λ (x : X). false) ls)) O)
three A O ls s =
    number-walk (A ++ map (λ x. false) ls ++ O) s
    ∙ ap found (walk-append (A ++ map (λ x. false) ls) O s 0)
    ∙ ap (λ w. found (then_walk w O)) (walk-append A (map (λ x. false) ls) s 0)

past : {X : Type 0} (A O : List Bool) (ls : List X) (s : ℕ) (v : Walk) → v ≡ walk A s 0 →
    found (then_walk (then_walk v (map (λ (x : X). false) ls)) O) ≡ cell_number (A ++ map (λ (x : X). false) ls ++ O) s
past A O ls s v e = ap (λ w. found (then_walk (then_walk w (map (λ x. false) ls)) O)) e ∙ sym (three A O ls s)

pub number_in_globals : (P : Program) (s : ℕ) (k : Option ℕ) → walked.Found k ≡ walk (global_cells P) s 0 → k ≡ cell_number (cells P) s
number_in_globals P s k e = past (global_cells P) (object_cells P) P.literals s (walked.Found k) e

pub number_in_literals : (P : Program) (s skip seen : ℕ) → walked.Past skip seen ≡ walk (global_cells P) s 0 → skip < length P.literals → None ≡ cell_number (cells P) s
number_in_literals P s skip seen e h =
    ap (λ w. found (then_walk w (object_cells P))) (sym (over_false P.literals skip seen h)) ∙ past (global_cells P) (object_cells P) P.literals s (walked.Past skip seen) e

pub number_in_objects : (P : Program) (s skip seen : ℕ) (v : Walk) → walked.Past skip seen ≡ walk (global_cells P) s 0 → length P.literals ≤ skip →
    v ≡ walk (object_cells P) (skip - length P.literals) seen → found v ≡ cell_number (cells P) s
number_in_objects P s skip seen v e h f =
    ap found f
    ∙ ap (λ w. found (then_walk w (object_cells P))) (sym (past_false P.literals skip seen h))
    ∙ past (global_cells P) (object_cells P) P.literals s (walked.Past skip seen) e

-- ---- the objects of procedures

abbrev flags : List Local → List Bool
flags ls = map (λ l. is_pointer_cell l.body) ls

abbrev tail_of : List Proc → List Proc
tail_of fs = take (length fs - 1) (drop 1 fs)

peeled : (fs : List Proc) (f d : Proc) (s n : ℕ) → 1 ≤ length fs → f ≡ slice_index_or fs 0 d →
    walk (flags (flat_map objects_of fs)) s n ≡ then_walk (walk (flags (objects_of f)) s n) (flags (flat_map objects_of (tail_of fs)))
peeled [] f d s n le is = absurd (omega arith)
peeled (g ∷ gs) f d s n le is =
    let m : suc (length gs) - 1 ≡ length gs = omega arith in
    let t : take (suc (length gs) - 1) gs ≡ gs = rw m (take-length gs) in
    ap (λ cs. walk cs s n) (map-append (λ (l : Local). is_pointer_cell l.body) (objects_of g) (flat_map objects_of gs))
    ∙ walk-append (flags (objects_of g)) (flags (flat_map objects_of gs)) s n
    ∙ ap (λ (y : Proc). then_walk (walk (flags (objects_of y)) s n) (flags (flat_map objects_of gs))) (sym is)
    ∙ ap (λ ys. then_walk (walk (flags (objects_of f)) s n) (flags (flat_map objects_of ys))) (sym t)

pub found_first : (fs : List Proc) (f d : Proc) (s n : ℕ) (k : Option ℕ) → 1 ≤ length fs → f ≡ slice_index_or fs 0 d →
    walked.Found k ≡ walk (flags (objects_of f)) s n → walked.Found k ≡ walk (flags (flat_map objects_of fs)) s n
found_first fs f d s n k le is e = ap (λ w. then_walk w (flags (flat_map objects_of (tail_of fs)))) e ∙ sym (peeled fs f d s n le is)

pub past_first : (fs : List Proc) (f d : Proc) (s n skip seen : ℕ) → 1 ≤ length fs → f ≡ slice_index_or fs 0 d →
    walked.Past skip seen ≡ walk (flags (objects_of f)) s n → walk (flags (flat_map objects_of (tail_of fs))) skip seen ≡ walk (flags (flat_map objects_of fs)) s n
past_first fs f d s n skip seen le is e = ap (λ w. then_walk w (flags (flat_map objects_of (tail_of fs)))) e ∙ sym (peeled fs f d s n le is)

-- ---- how many cells a walk to the end has seen

pub seen-count : (cs : List Bool) (s n skip seen : ℕ) → walked.Past skip seen ≡ walk cs s n → seen ≡ n + count_by (λ c. c) cs
seen-count [] s n skip seen e = let f : seen ≡ n = cc in let g : count_by (λ (c : Bool). c) [] ≡ 0 = refl in omega arith
seen-count (c ∷ cs) zero n skip seen e = absurd (cc)
seen-count (true ∷ cs) (suc s) n skip seen e =
    let f : count_by (λ c. c) (true ∷ cs) ≡ 1 + count_by (λ c. c) cs = sum_by-cons (λ (c : Bool). if c then 1 else 0) true cs in
    let g : seen ≡ suc n + count_by (λ c. c) cs = seen-count cs s (suc n) skip seen e in
    omega (arith, f, g)
seen-count (false ∷ cs) (suc s) n skip seen e =
    let f : count_by (λ c. c) (false ∷ cs) ≡ 0 + count_by (λ c. c) cs = sum_by-cons (λ (c : Bool). if c then 1 else 0) false cs in
    let g : seen ≡ n + count_by (λ c. c) cs = seen-count cs s n skip seen e in
    omega (arith, f, g)

falses-count : {X : Type 0} (xs : List X) → count_by (λ c. c) (map (λ (x : X). false) xs) ≡ 0
falses-count [] = refl
falses-count (x ∷ xs) =
    let f : count_by (λ c. c) (false ∷ map (λ x. false) xs) ≡ 0 + count_by (λ c. c) (map (λ x. false) xs) = sum_by-cons (λ (c : Bool). if c then 1 else 0) false (map (λ x. false) xs) in
    let g = falses-count xs in
    omega (arith, f, g)

added : (seen a o total z front all : ℕ) → seen ≡ 0 + a → total ≡ seen + o → z ≡ 0 → front ≡ a + z → all ≡ front + o → total ≡ all
added seen a o total z front all e f g h i = omega arith

pub cells-count : (P : Program) (a b skip seen more total : ℕ) → walked.Past skip seen ≡ walk (global_cells P) a 0 → walked.Past more total ≡ walk (object_cells P) b seen → total ≡ count_by (λ c. c) (cells P)
cells-count P a b skip seen more total e f =
    let g = seen-count (global_cells P) a 0 skip seen e in
    let h = seen-count (object_cells P) b seen more total f in
    let i = falses-count P.literals in
    let j = sum_by-append (λ (c : Bool). if c then 1 else 0) (global_cells P ++ map (λ l. false) P.literals) (object_cells P) in
    let k = sum_by-append (λ (c : Bool). if c then 1 else 0) (global_cells P) (map (λ l. false) P.literals) in
    added seen (count_by (λ c. c) (global_cells P)) (count_by (λ c. c) (object_cells P)) total (count_by (λ c. c) (map (λ l. false) P.literals)) (count_by (λ c. c) (global_cells P ++ map (λ l. false) P.literals)) (count_by (λ c. c) (cells P)) g h i k j
