-- A walk goes on from a cursor: past a procedure whose objects all stand before, the next one is where it goes on.
use Rattle.std.proofs.Common.{◌≡◌, refl, sym, ap, ◌∙◌, ℕ, zero, suc, ◌+◌, ◌-◌, ◌<◌, ◌≤◌, Bool, true, false, List, [], ◌∷◌, ◌++◌, length, map, drop, Option, Some, None, slice_get, arith, if◌then◌else◌}
use Rattle.std.specs.List.{filter, flat_map}
use Rattle.std.proofs.lemmas.List.{map-append}
use Rattle.cv_core.specs.Names.{is_pointer_cell, is_pointer_global, objects_of}
use Rattle.cv_core.specs.declared.program.Proc.{Proc}
use Rattle.cv_core.specs.declared.program.Program.{Program}
use Rattle.cv_points.specs.Cursors.{IsCursor, cells_behind}
use Rattle.cv_points.specs.Holders.{cell_number, cells, first_holder, global_cells, object_cells}
use Rattle.cv_points.specs.Walks.{found, then_walk, walk, word}
use Rattle.cv_points.specs.declared.cursor.Cursor.{Cursor}
use Rattle.cv_points.specs.declared.walk.Walk.TheVariants as walked
use Rattle.cv_points.proofs.Walked.{number_in_objects, walk-append}

-- ---- walks past a list

-- a walk that ends past a list ends so from each number that is greater
record IsPast (xs : List Bool) (k n skip seen : ℕ) : Type 0 where
  counted : length xs + skip ≡ k
  over : (m : ℕ) → walk xs (length xs + m) n ≡ walked.Past m seen

past_on : (xs : List Bool) (k n skip seen : ℕ) → walked.Past skip seen ≡ walk xs k n → IsPast xs k n skip seen
past_on [] k n skip seen e =
    let f : skip ≡ k = cc in
    let g : seen ≡ n = cc in
    record { counted = omega (arith, f); over = λ m. let h : 0 + m ≡ m = omega arith in ap (λ i. walked.Past i n) h ∙ ap (λ i. walked.Past m i) (sym g) }
past_on (c ∷ cs) zero n skip seen e = absurd (cc)
past_on (c ∷ cs) (suc k) n skip seen e =
    let r = past_on cs k (if c then suc n else n) skip seen e in
    record {
      counted = (let f : length cs + skip ≡ k = r.counted in omega (arith, f));
      over = λ m. let h : suc (length cs) + m ≡ suc (length cs + m) = omega arith in ap (λ i. walk (c ∷ cs) i n) h ∙ r.over m;
    }

-- a walk over flags of elements ends past them, and has seen those that have it
one_kept : {X : Type 0} (b : Bool) (x : X) (rest : List X) (n : ℕ) → (if b then suc n else n) + length rest ≡ n + length (if b then x ∷ rest else rest)
one_kept true x rest n = omega arith
one_kept false x rest n = refl

past_all : {X : Type 0} (p : X → Bool) (xs : List X) (m n : ℕ) → walk (map p xs) (length xs + m) n ≡ walked.Past m (n + length (filter p xs))
past_all p [] m n = let h : 0 + m ≡ m = omega arith in let g : n ≡ n + 0 = omega arith in ap (λ i. walked.Past i n) h ∙ ap (λ i. walked.Past m i) g
past_all p (x ∷ xs) m n =
    let h : suc (length xs) + m ≡ suc (length xs + m) = omega arith in
    ap (λ i. walk (p x ∷ map p xs) i n) h
    ∙ past_all p xs m (if p x then suc n else n)
    ∙ ap (λ i. walked.Past m i) (one_kept (p x) x (filter p xs) n)

-- ---- the procedures from a number on

behind_none : (fs : List Proc) (i : ℕ) → slice_get fs i ≡ None → drop i fs ≡ []
behind_none [] zero e = refl
behind_none [] (suc i) e = refl
behind_none (f ∷ fs) zero e = absurd (cc)
behind_none (f ∷ fs) (suc i) e = behind_none fs i e

behind_some : (fs : List Proc) (i : ℕ) (f : Proc) → slice_get fs i ≡ Some f → drop i fs ≡ f ∷ drop (suc i) fs
behind_some [] i f e = absurd (cc)
behind_some (g ∷ gs) zero f e = let h : g ≡ f = cc in ap (λ x. x ∷ gs) h
behind_some (g ∷ gs) (suc i) f e = behind_some gs i f e

pub there : (fs : List Proc) (i : ℕ) (f : Proc) → slice_get fs i ≡ Some f → i < length fs
there [] i f e = absurd (cc)
there (g ∷ gs) zero f e = omega arith
there (g ∷ gs) (suc i) f e = let h : i < length gs = there gs i f e in omega (arith, h)

abbrev own_cells : Proc → List Bool
own_cells f = map (λ l. is_pointer_cell l.body) (objects_of f)

behind_is : (P : Program) (i : ℕ) (f : Proc) → slice_get P.procs i ≡ Some f → cells_behind P i ≡ own_cells f ++ cells_behind P (suc i)
behind_is P i f e =
    ap (λ fs. map (λ l. is_pointer_cell l.body) (flat_map objects_of fs)) (behind_some P.procs i f e)
    ∙ map-append (λ l. is_pointer_cell l.body) (objects_of f) (flat_map objects_of (drop (suc i) P.procs))

-- ---- steps

walk_behind : (P : Program) (i : ℕ) (f : Proc) (k n : ℕ) → slice_get P.procs i ≡ Some f → walk (cells_behind P i) k n ≡ then_walk (walk (own_cells f) k n) (cells_behind P (suc i))
walk_behind P i f k n e = ap (λ cs. walk cs k n) (behind_is P i f e) ∙ walk-append (own_cells f) (cells_behind P (suc i)) k n

pub step_found : (P : Program) (c : Cursor) (f : Proc) (s : ℕ) (number : Option ℕ) → IsCursor P c → slice_get P.procs c.proc ≡ Some f → c.objects ≤ s →
    walked.Found number ≡ walk (own_cells f) (s - c.objects) c.cells → number ≡ cell_number (cells P) s
step_found P c f s number is here le e =
    ap (λ w. found (then_walk w (cells_behind P (suc c.proc)))) e
    ∙ ap found (sym (walk_behind P c.proc f (s - c.objects) c.cells here))
    ∙ is.onward s le

onward_behind : (P : Program) (c : Cursor) (f : Proc) (s skip seen : ℕ) → IsCursor P c → slice_get P.procs c.proc ≡ Some f → c.objects ≤ s → skip ≤ s →
    IsPast (own_cells f) (s - c.objects) c.cells skip seen → (t : ℕ) → s - skip ≤ t → found (walk (cells_behind P (suc c.proc)) (t - (s - skip)) seen) ≡ cell_number (cells P) t
onward_behind P c f s skip seen is here le less past t from =
    let k : length (own_cells f) + skip ≡ s - c.objects = past.counted in
    let same : t - c.objects ≡ length (own_cells f) + (t - (s - skip)) = omega (arith, k) in
    let early : c.objects ≤ t = omega (arith, k) in
    ap (λ w. found (then_walk w (cells_behind P (suc c.proc)))) (sym (past.over (t - (s - skip))))
    ∙ ap (λ i. found (then_walk (walk (own_cells f) i c.cells) (cells_behind P (suc c.proc)))) (sym same)
    ∙ ap found (sym (walk_behind P c.proc f (t - c.objects) c.cells here))
    ∙ is.onward t early

pub step_behind : (P : Program) (c d : Cursor) (f : Proc) (s skip seen : ℕ) → IsCursor P c → slice_get P.procs c.proc ≡ Some f → c.objects ≤ s →
    walked.Past skip seen ≡ walk (own_cells f) (s - c.objects) c.cells → skip + seen ≤ (s - c.objects) + c.cells →
    d.base ≡ c.base → d.proc ≡ suc c.proc → d.objects ≡ s - skip → d.cells ≡ seen → IsCursor P d × (d.objects ≤ s) × (d.proc ≡ suc c.proc)
step_behind P c d f s skip seen is here le e shorter base proc objects cells_are =
    let past = past_on (own_cells f) (s - c.objects) c.cells skip seen e in
    let k : length (own_cells f) + skip ≡ s - c.objects = past.counted in
    let few : c.cells ≤ c.objects = is.fewer in
    let less : skip ≤ s = omega (arith, k) in
    let low : d.objects ≤ s = omega (arith, objects) in
    let fewer : d.cells ≤ d.objects = omega (arith, k, few, shorter, objects, cells_are) in (
      record {
        base = base ∙ is.base;
        fewer = fewer;
        onward = λ t from.
            let f_from : s - skip ≤ t = omega (arith, objects, from) in
            let spot : t - d.objects ≡ t - (s - skip) = ap (λ i. t - i) objects in
            ap (λ i. found (walk (cells_behind P i) (t - d.objects) d.cells)) proc
            ∙ ap (λ i. found (walk (cells_behind P (suc c.proc)) i d.cells)) spot
            ∙ ap (λ i. found (walk (cells_behind P (suc c.proc)) (t - (s - skip)) i)) cells_are
            ∙ onward_behind P c f s skip seen is here le less past t f_from;
      },
      low,
      proc,
    )

pub none_behind : (P : Program) (c : Cursor) (s : ℕ) → IsCursor P c → slice_get P.procs c.proc ≡ None → c.objects ≤ s → None ≡ cell_number (cells P) s
none_behind P c s is gone le =
    ap (λ fs. found (walk (map (λ l. is_pointer_cell l.body) (flat_map objects_of fs)) (s - c.objects) c.cells)) (sym (behind_none P.procs c.proc gone))
    ∙ is.onward s le

-- ---- the cursor at the first procedure

first_onward : (P : Program) (s : ℕ) → length P.globals + length P.literals ≤ s →
    found (walk (object_cells P) (s - (length P.globals + length P.literals)) (length (filter (λ g. is_pointer_global g.body) P.globals))) ≡ cell_number (cells P) s
first_onward P s le =
    let skip : ℕ = s - length P.globals in
    let seen : ℕ = length (filter (λ g. is_pointer_global g.body) P.globals) in
    let whole : s ≡ length P.globals + skip = omega arith in
    let none : 0 + seen ≡ seen = omega arith in
    let past : walk (global_cells P) s 0 ≡ walked.Past skip seen = ap (λ i. walk (global_cells P) i 0) whole ∙ past_all (λ g. is_pointer_global g.body) P.globals skip 0 ∙ ap (λ i. walked.Past skip i) none in
    let same : s - (length P.globals + length P.literals) ≡ skip - length P.literals = omega arith in
    number_in_objects P s skip seen (walk (object_cells P) (s - (length P.globals + length P.literals)) seen) (sym past) (omega arith)
    (ap (λ i. walk (object_cells P) i seen) same)

one_few : {X : Type 0} (b : Bool) (x : X) (rest : List X) (n : ℕ) → length rest ≤ n → length (if b then x ∷ rest else rest) ≤ suc n
one_few true x rest n h = omega (arith, h)
one_few false x rest n h = omega (arith, h)

few : {X : Type 0} (p : X → Bool) (xs : List X) → length (filter p xs) ≤ length xs
few p [] = omega arith
few p (x ∷ xs) = one_few (p x) x (filter p xs) (length xs) (few p xs)

pub first_is : (P : Program) (c : Cursor) → c.base ≡ word (first_holder P (length P.procs)) → c.proc ≡ 0 → c.objects ≡ length P.globals + length P.literals →
    c.cells ≡ length (filter (λ g. is_pointer_global g.body) P.globals) → IsCursor P c
first_is P c base proc objects cells_are =
    let le : length (filter (λ g. is_pointer_global g.body) P.globals) ≤ length P.globals = few (λ g. is_pointer_global g.body) P.globals in
    record {
      base = base;
      fewer = omega (arith, objects, cells_are, le);
      onward = λ s le.
          let early : length P.globals + length P.literals ≤ s = omega (arith, objects, le) in
          ap (λ i. found (walk (cells_behind P i) (s - c.objects) c.cells)) proc
          ∙ ap (λ i. found (walk (object_cells P) (s - i) c.cells)) objects
          ∙ ap (λ i. found (walk (object_cells P) (s - (length P.globals + length P.literals)) i)) cells_are
          ∙ first_onward P s early;
    }
