-- Choices that go on from picks.
use Rattle.std.proofs.Common.{refl, ℕ, suc, ◌≡◌, ◌<◌, ◌≤◌, ◌||◌, Bool, true, false, List, [], ◌∷◌, length, Option, Some, None, ap, if◌then◌else◌, inl, inr, nat_eq, pos, ℤ, slice_index_or, subst, sym, ◌∙◌, ◌⊎◌}
use Rattle.std.specs.List.{Contains}
use Rattle.std.specs.Option.{MatchOption}
use Rattle.std.proofs.lemmas.Bool.Decides.{eqb_tells}
use Rattle.cv_core.specs.Names.{Name}
use Rattle.cv_core.specs.declared.program.Formal.{Formal}
use Rattle.cv_core.specs.declared.program.Proc.{Proc}
use Rattle.cv_ppts.specs.Choices.{IsPick, cell_set, codes_of_place, is_named_cell, is_starred, is_target, listed_cell, starred_cell}
use Rattle.cv_ppts.specs.Lacking.{CellsAhead, CellsOver, CellsPicked, Lacks, listed_ahead, new_cell, starred_ahead}
use Rattle.cv_ppts.specs.Numbers.{code_of, row_codes}
use Rattle.cv_ppts.specs.Picked.{GoesOn, Over, OverPick, has_pick, pick_at}
use Rattle.cv_ppts.specs.Plain.{IsWithin, Sets}
use Rattle.cv_ppts.specs.Setting.{Setting, content_place}
use Rattle.cv_ppts.specs.declared.code.Code.{Code}
use Rattle.cv_ppts.specs.declared.code.Code.TheVariants as coded
use Rattle.cv_ppts.specs.declared.picks.Picks.{Done, Pick', Picks}
use Rattle.cv_ppts.specs.Targets.{ChoiceHolds}
use Rattle.cv_ppts.specs.declared.sets.Missing.{Missing}
use Rattle.cv_ppts.proofs.Lacked.{all_passed, answer_part, in_row, lacks_part}

-- functions that agree everywhere are one
fun_same : {A B : Type 0} (f g : A → B) → ((x : A) → f x ≡ g x) → f ≡ g
fun_same f g h = λ i x. h x i

pick_by : (b picked : Bool) (code rest : Code) → (picked ≡ false → rest ≡ coded.Unknown) → (if b then true else picked) ≡ false → (if b then code else rest) ≡ coded.Unknown
pick_by true picked code rest f e = absurd (cc)
pick_by false picked code rest f e = f e

-- nothing is known of what was not picked
pub pick_none : (L : Picks) (i : ℕ) → has_pick L i ≡ false → pick_at L i ≡ coded.Unknown
pick_none Done i h = refl
pick_none (Pick' key code p rest) i h = pick_by (nat_eq key i) (has_pick rest i) code (pick_at rest i) (λ e. pick_none rest i e) h

-- ---- at the end all is picked

goes_is : (b : Bool) (picked : Code) (cs : Option (List Code)) (c : Code) → (b ≡ false → (cs ≡ None) × (picked ≡ coded.Unknown)) → GoesOn b picked cs c → c ≡ picked
goes_is true picked cs c f g = g
goes_is false picked cs c f g = let (e, q) = f refl in subst (λ o. IsPick o c) e g ∙ sym q

starts : (b : Bool) (picked : Code) (cs : Option (List Code)) → (b ≡ false → (cs ≡ None) × (picked ≡ coded.Unknown)) → GoesOn b picked cs picked
starts true picked cs f = refl
starts false picked cs f = let (e, q) = f refl in subst (λ o. IsPick o picked) (sym e) q

pub over_end : (sets : ℕ → Option (List Code)) (L : Picks) (H : (ℕ → Code) → Type 0) → ((i : ℕ) → has_pick L i ≡ false → sets i ≡ None) → H (pick_at L) → Over sets L H
over_end sets L H none h K goes =
    subst H (fun_same (pick_at L) K (λ i. sym (goes_is (has_pick L i) (pick_at L i) (sets i) (K i) (λ e. (none i e, pick_none L i e)) (goes i)))) h

pub over_start : (sets : ℕ → Option (List Code)) (L : Picks) (H : (ℕ → Code) → Type 0) → ((i : ℕ) → has_pick L i ≡ false → sets i ≡ None) → Over sets L H → H (pick_at L)
over_start sets L H none h = h (pick_at L) (λ i. starts (has_pick L i) (pick_at L i) (sets i) (λ e. (none i e, pick_none L i e)))

-- ---- one more pick

tell : (a b : ℕ) → ((nat_eq a b ≡ true) × (a ≡ b)) ⊎ ((nat_eq a b ≡ false) × (a ≡ b → ⊥))
tell a b = eqb_tells a b

pub over_pick : (sets : ℕ → Option (List Code)) (L : Picks) (H : (ℕ → Code) → Type 0) (v : ℕ) (cs : List Code) → has_pick L v ≡ false → sets v ≡ Some cs →
    ((c : Code) → Contains cs c → OverPick sets v c L H) → Over sets L H
over_pick sets L H v cs none e h K goes =
    let free : GoesOn false (pick_at L v) (sets v) (K v) = subst (λ b. GoesOn b (pick_at L v) (sets v) (K v)) none (goes v) in
    let there : Contains cs (K v) = subst (λ o. IsPick o (K v)) e free in
    h (K v) there K (λ i. by_place i)
  where
    by_place : (i : ℕ) → GoesOn (if nat_eq v i then true else has_pick L i) (if nat_eq v i then K v else pick_at L i) (sets i) (K i)
    by_place i = elim (tell v i) [
      | inl (t, f) ↦ subst (λ b. GoesOn (if b then true else has_pick L i) (if b then K v else pick_at L i) (sets i) (K i)) (sym t) (ap K (sym f))
      | inr (t, f) ↦ subst (λ b. GoesOn (if b then true else has_pick L i) (if b then K v else pick_at L i) (sets i) (K i)) (sym t) (goes i)
    ]

pub over_picked : (sets : ℕ → Option (List Code)) (L : Picks) (H : (ℕ → Code) → Type 0) (v : ℕ) (cs : List Code) (c : Code) → has_pick L v ≡ false → sets v ≡ Some cs → Contains cs c →
    Over sets L H → OverPick sets v c L H
over_picked sets L H v cs c none e there h K goes = h K (λ i. by_place i)
  where
    by_place : (i : ℕ) → GoesOn (has_pick L i) (pick_at L i) (sets i) (K i)
    by_place i = elim (tell v i) [
      | inl (t, f) ↦
          let picked : K i ≡ c = subst (λ b. GoesOn (if b then true else has_pick L i) (if b then c else pick_at L i) (sets i) (K i)) t (goes i) in
          let none_here : has_pick L i ≡ false = subst (λ j. has_pick L j ≡ false) f none in
          let set_here : sets i ≡ Some cs = subst (λ j. sets j ≡ Some cs) f e in
          subst (λ b. GoesOn b (pick_at L i) (sets i) (K i)) (sym none_here) (subst (λ o. IsPick o (K i)) (sym set_here) (subst (λ z. Contains cs z) (sym picked) there))
      | inr (t, f) ↦ subst (λ b. GoesOn (if b then true else has_pick L i) (if b then c else pick_at L i) (sets i) (K i)) t (goes i)
    ]

-- a set that grows with the sets T, at a key
pub record GrowsAt (sets : Sets → ℕ → Option (List Code)) (v : ℕ) (c : Code) (R : Sets) : Type 0 where
  pub codes : List Code
  pub is : sets R v ≡ Some codes
  pub there : Contains codes c

pub lacks_pick : (sets : Sets → ℕ → Option (List Code)) (H : Sets → (ℕ → Code) → Type 0) (T : Sets) (L : Picks) (v : ℕ) (c : Code) (to : ℕ) (code : Code) → has_pick L v ≡ false →
    ((R : Sets) → IsWithin T R → GrowsAt sets v c R) → Lacks T (λ R. OverPick (sets R) v c L (H R)) to code → Lacks T (λ R. Over (sets R) L (H R)) to code
lacks_pick sets H T L v c to code none grows l =
    lacks_part T (λ R. OverPick (sets R) v c L (H R)) (λ R. Over (sets R) L (H R)) to code
    (λ R within w. let g = grows R within in over_picked (sets R) L (H R) v g.codes c none g.is g.there w) l

-- ---- the codes of cells

pub place_grows : (T R : Sets) (place : Option ℕ) (c : Code) → IsWithin T R → Contains (codes_of_place T place) c → Contains (codes_of_place R place) c
place_grows T R None c within x = x
place_grows T R (Some h) c within x = within h c x

pub cell_grows : (s : Setting) (named : ℕ → Bool) (T R : Sets) (v : ℕ) (c : Code) → named v ≡ true → Contains (codes_of_place T (content_place s v)) c → IsWithin T R → GrowsAt (λ (S : Sets) (u : ℕ). cell_set s S (named u) u) v c R
cell_grows s named T R v c e x within = record {
  codes = codes_of_place R (content_place s v);
  is = ap (λ b. cell_set s R b v) e;
  there = place_grows T R (content_place s v) c within x;
}

-- ---- cells that are ahead

or_left : (a b : Bool) → (a || b) ≡ true → a ≡ false → b ≡ true
or_left true b e f = absurd (cc)
or_left false b e f = e

or_right : (a b : Bool) → b ≡ true → (a || b) ≡ true
or_right true b e = refl
or_right false b e = e

target_new : (L : Picks) (u : ℕ) (cell : Option ℕ) → new_cell L cell ≡ None → has_pick L u ≡ false → is_target u cell ≡ false
target_new L u None e n = refl
target_new L u (Some v) e n = elim (tell v u) [
  | inl (t, f) ↦ absurd (let picked : has_pick L v ≡ false = subst (λ j. has_pick L j ≡ false) (sym f) n in let g : new_cell L (Some v) ≡ Some v = ap (λ b. if b then None else Some v) picked in let h : Some v ≡ None = sym g ∙ e in cc)
  | inr (t, f) ↦ t
]

-- a cell that is passed over was picked before
pub ahead_skips : (s : Setting) (g : Proc) (formal : ℕ → Code) (ahead later : ℕ → Bool) (cell : Option ℕ) (L : Picks) → ((u : ℕ) → ahead u ≡ (is_target u cell || later u)) → new_cell L cell ≡ None →
    CellsAhead s g formal ahead L → CellsAhead s g formal later L
ahead_skips s g formal ahead later cell L first e h = record {
  covered = λ u n f. or_left (is_target u cell) (later u) (sym (first u) ∙ h.covered u n f) (target_new L u cell e f);
  named = λ u x. h.named u (first u ∙ or_right (is_target u cell) (later u) x);
}

target_other : (v u : ℕ) → (if nat_eq v u then true else false) ≡ false → nat_eq v u ≡ false
target_other v u e = by_test (nat_eq v u) e
  where
    by_test : (b : Bool) → (if b then true else false) ≡ false → b ≡ false
    by_test true e = e
    by_test false e = refl

-- a cell that is picked is no more ahead
pub ahead_picks : (s : Setting) (g : Proc) (formal : ℕ → Code) (ahead later : ℕ → Bool) (v : ℕ) (c : Code) (p : _) (L : Picks) → ((u : ℕ) → ahead u ≡ (is_target u (Some v) || later u)) →
    CellsAhead s g formal ahead L → CellsAhead s g formal later (Pick' v c p L)
ahead_picks s g formal ahead later v c p L first h = record {
  covered = λ u n f. by_test (nat_eq v u) (has_pick L u) (later u) (λ none. sym (first u) ∙ h.covered u n none) f;
  named = λ u x. h.named u (first u ∙ or_right (nat_eq v u) (later u) x);
}
  where
    by_test : (b picked rest : Bool) → (picked ≡ false → (b || rest) ≡ true) → (if b then true else picked) ≡ false → rest ≡ true
    by_test true picked rest f e = absurd (cc)
    by_test false picked rest f e = f e

pub new_is_free : (L : Picks) (cell : Option ℕ) (v : ℕ) → new_cell L cell ≡ Some v → (cell ≡ Some v) × (has_pick L v ≡ false)
new_is_free L None v e = absurd (cc)
new_is_free L (Some u) v e = by_test (has_pick L u) refl e
  where
    by_test : (b : Bool) → b ≡ has_pick L u → (if b then None else Some u) ≡ Some v → (Some u ≡ Some v) × (has_pick L v ≡ false)
    by_test true f g = absurd (cc)
    by_test false f g = (g, (let same : u ≡ v = cc in subst (λ j. has_pick L j ≡ false) same (sym f)))

pub first_named : (s : Setting) (g : Proc) (formal : ℕ → Code) (ahead later : ℕ → Bool) (cell : Option ℕ) (v : ℕ) (L : Picks) → ((u : ℕ) → ahead u ≡ (is_target u cell || later u)) → cell ≡ Some v →
    CellsAhead s g formal ahead L → is_named_cell s g formal v ≡ true
first_named s g formal ahead later cell v L first e h =
    h.named v (first v ∙ ap (λ o. is_target v o || later v) e ∙ ap (λ b. b || later v) (same v))
  where
    same : (n : ℕ) → nat_eq n n ≡ true
    same n = elim (tell n n) [ inl (t, f) ↦ t | inr (t, f) ↦ absurd (f refl) ]

-- ---- the cells at a call

abbrev pub cell_sets : Setting → Proc → (ℕ → Code) → Sets → ℕ → Option (List Code)
cell_sets s g formal R u = cell_set s R (is_named_cell s g formal u) u

not_named : (s : Setting) (g : Proc) (formal : ℕ → Code) (ahead : ℕ → Bool) (L : Picks) (R : Sets) → CellsAhead s g formal ahead L → ((u : ℕ) → ahead u ≡ false) → (i : ℕ) → has_pick L i ≡ false → cell_sets s g formal R i ≡ None
not_named s g formal ahead L R h none i f = by_test (is_named_cell s g formal i) refl
  where
    by_test : (b : Bool) → b ≡ is_named_cell s g formal i → cell_set s R b i ≡ None
    by_test false e = refl
    by_test true e = absurd (let x : ahead i ≡ true = h.covered i (sym e) f in let y : true ≡ false = sym x ∙ none i in cc)

pub cells_end : (s : Setting) (T : Sets) (t : ℕ) (into : Option ℕ) (g : Proc) (formal : ℕ → Code) (ahead : ℕ → Bool) (L : Picks) (o : Option Missing) → CellsAhead s g formal ahead L → ((u : ℕ) → ahead u ≡ false) →
    MatchOption o (ChoiceHolds s T t into g (record { formal = formal; cell = pick_at L })) (λ m. Lacks T (λ R. ChoiceHolds s R t into g (record { formal = formal; cell = pick_at L })) m.to m.code) →
    MatchOption o (CellsOver s T t into g formal L) (λ m. Lacks T (λ R. CellsOver s R t into g formal L) m.to m.code)
cells_end s T t into g formal ahead L o h none l =
    answer_part T (λ R. ChoiceHolds s R t into g (record { formal = formal; cell = pick_at L })) (λ R. CellsOver s R t into g formal L) o
    (λ q. over_end (cell_sets s g formal T) L (λ cell. ChoiceHolds s T t into g (record { formal = formal; cell = cell })) (not_named s g formal ahead L T h none) q)
    (λ R within w. over_start (cell_sets s g formal R) L (λ cell. ChoiceHolds s R t into g (record { formal = formal; cell = cell })) (not_named s g formal ahead L R h none) w) l

pub cells_lack : (s : Setting) (T : Sets) (t : ℕ) (into : Option ℕ) (g : Proc) (formal : ℕ → Code) (L : Picks) (v : ℕ) (ns : List ℤ) (i to : ℕ) (c code : Code) → has_pick L v ≡ false → is_named_cell s g formal v ≡ true →
    row_codes ns ≡ codes_of_place T (content_place s v) → i < length ns → c ≡ code_of (slice_index_or ns i (pos 0)) → Lacks T (λ R. CellsPicked s R t into g formal v c L) to code → Lacks T (λ R. CellsOver s R t into g formal L) to code
cells_lack s T t into g formal L v ns i to c code none named e lt is l =
    lacks_pick (cell_sets s g formal) (λ R cell. ChoiceHolds s R t into g (record { formal = formal; cell = cell })) T L v c to code none
    (λ R within. cell_grows s (is_named_cell s g formal) T R v c named (subst (λ xs. Contains xs c) e (subst (λ z. Contains (row_codes ns) z) (sym is) (in_row ns i lt))) within) l

pub cells_all : (s : Setting) (T : Sets) (t : ℕ) (into : Option ℕ) (g : Proc) (formal : ℕ → Code) (L : Picks) (v : ℕ) (ns : List ℤ) (i : ℕ) → has_pick L v ≡ false → is_named_cell s g formal v ≡ true →
    row_codes ns ≡ codes_of_place T (content_place s v) → length ns ≤ i → ((k : ℕ) (d : ℤ) → k < i → CellsPicked s T t into g formal v (code_of (slice_index_or ns k d)) L) → CellsOver s T t into g formal L
cells_all s T t into g formal L v ns i none named e ge h =
    over_pick (cell_sets s g formal T) L (λ cell. ChoiceHolds s T t into g (record { formal = formal; cell = cell })) v (row_codes ns) none
    (ap (λ b. cell_set s T b v) named ∙ ap (λ xs. Some xs) (sym e))
    (all_passed (λ c. CellsPicked s T t into g formal v c L) ns i ge h)

-- ---- what is ahead

pub listed_first : (s : Setting) (names more : List Name) (x : Name) → names ≡ x ∷ more → (u : ℕ) → listed_ahead s names u ≡ (is_target u (listed_cell s x) || listed_ahead s more u)
listed_first s names more x e u = ap (λ ns. listed_ahead s ns u) e

pub listed_none : (s : Setting) (names : List Name) → names ≡ [] → (u : ℕ) → listed_ahead s names u ≡ false
listed_none s names e u = ap (λ ns. listed_ahead s ns u) e

or_assoc : (a b c : Bool) → ((a || b) || c) ≡ (a || (b || c))
or_assoc true b c = refl
or_assoc false b c = refl

pub starred_first : (s : Setting) (g : Proc) (formal : ℕ → Code) (number next : ℕ) (fs more : List Formal) (x : Formal) → fs ≡ x ∷ more → next ≡ suc number → (u : ℕ) →
    starred_ahead s g formal number fs u ≡ (is_target u (starred_cell x.kind (formal number)) || starred_ahead s g formal next more u)
starred_first s g formal number next fs more x e n u =
    ap (λ ys. starred_ahead s g formal number ys u) e
    ∙ or_assoc (is_target u (starred_cell x.kind (formal number))) (is_starred formal u (suc number) more) (listed_ahead s g.contract.listed u)
    ∙ ap (λ k. is_target u (starred_cell x.kind (formal number)) || starred_ahead s g formal k more u) (sym n)

pub starred_none : (s : Setting) (g : Proc) (formal : ℕ → Code) (number : ℕ) (fs : List Formal) (names : List Name) (L : Picks) → fs ≡ [] → names ≡ g.contract.listed →
    CellsAhead s g formal (starred_ahead s g formal number fs) L → CellsAhead s g formal (listed_ahead s names) L
starred_none s g formal number fs names L e f h = record {
  covered = λ u n x. sym (same u) ∙ h.covered u n x;
  named = λ u x. h.named u (same u ∙ x);
}
  where
    same : (u : ℕ) → starred_ahead s g formal number fs u ≡ listed_ahead s names u
    same u = ap (λ ys. starred_ahead s g formal number ys u) e ∙ ap (λ ns. listed_ahead s ns u) (sym f)

pub starred_begins : (s : Setting) (g : Proc) (formal : ℕ → Code) (fs : List Formal) → fs ≡ g.formals → CellsAhead s g formal (starred_ahead s g formal 0 fs) Done
starred_begins s g formal fs e = record {
  covered = λ u n x. ap (λ ys. starred_ahead s g formal 0 ys u) e ∙ n;
  named = λ u x. sym (ap (λ ys. starred_ahead s g formal 0 ys u) e) ∙ x;
}

pub first_some : (ahead later : ℕ → Bool) (cell : Option ℕ) (v : ℕ) → ((u : ℕ) → ahead u ≡ (is_target u cell || later u)) → cell ≡ Some v → (u : ℕ) → ahead u ≡ (is_target u (Some v) || later u)
first_some ahead later cell v first e u = first u ∙ ap (λ o. is_target u o || later u) e

-- what the code found for a cell
pub found_none : (L : Picks) (cell is : Option ℕ) (found : Option ℕ) → found ≡ new_cell L is → is ≡ cell → found ≡ None → new_cell L cell ≡ None
found_none L cell is found e f n = ap (new_cell L) (sym f) ∙ sym e ∙ n

pub found_some : (L : Picks) (cell is : Option ℕ) (found : Option ℕ) (v : ℕ) → found ≡ new_cell L is → is ≡ cell → found ≡ Some v → (cell ≡ Some v) × (has_pick L v ≡ false)
found_some L cell is found v e f n = new_is_free L cell v (ap (new_cell L) (sym f) ∙ sym e ∙ n)
