-- The formals of a call, from the first to the last.
use Rattle.cv_core.specs.Names.{is_pointer_kind}
use Rattle.std.proofs.Common.{refl, ℕ, zero, suc, ◌≡◌, ◌<◌, ◌≤◌, ◌+◌, Bool, true, false, List, [], ◌∷◌, length, Option, Some, None, add-one, ap, arith, drop, if◌then◌else◌, inl, inr, pos, ℤ, slice_get, slice_index_or, subst, sym, ◌∙◌, ◌⊎◌}
use Rattle.std.specs.List.{Contains}
use Rattle.std.specs.Option.{MatchOption}
use Rattle.std.proofs.lemmas.Bool.{cases_lt}
use Rattle.std.proofs.lemmas.Bool.Decides.{eqb_tells}
use Rattle.cv_core.specs.declared.program.AnyOperand.{AnyOperand}
use Rattle.cv_core.specs.declared.program.Formal.{Formal}
use Rattle.cv_core.specs.declared.program.Proc.{Proc}
use Rattle.cv_core.specs.declared.program.AnyOperand.TheVariants as any
use Rattle.cv_core.specs.declared.program.Operand.TheVariants as operand
use Rattle.cv_points.specs.Holders.{variable_number}
use Rattle.cv_ppts.specs.Choices.{argument_codes, argument_set, changes_pointer, set_for}
use Rattle.cv_ppts.specs.Lacking.{CellsOver, FormalsAhead, FormalsOver, FormalsPicked, Lacks}
use Rattle.cv_ppts.specs.Numbers.{code_of, row_codes}
use Rattle.cv_ppts.specs.Picked.{has_pick, pick_at}
use Rattle.cv_ppts.specs.Plain.{IsWithin, Sets}
use Rattle.cv_ppts.specs.Setting.{Setting}
use Rattle.cv_ppts.specs.Targets.{CalleeHolds, Whether}
use Rattle.cv_ppts.specs.declared.code.Code.{Code}
use Rattle.cv_ppts.specs.declared.picks.Picks.{Done, Pick', Picks}
use Rattle.cv_ppts.specs.declared.sets.Missing.{Missing}
use Rattle.cv_ppts.proofs.Lacked.{all_passed, answer_part, in_row}
use Rattle.cv_ppts.proofs.Overs.{lacks_pick, over_end, over_pick, over_start, place_grows}

get_within : {X : Type 0} (xs : List X) (i : ℕ) (x : X) → slice_get xs i ≡ Some x → i < length xs
get_within [] i x e = absurd (cc)
get_within (y ∷ ys) zero x e = omega arith
get_within (y ∷ ys) (suc i) x e = let h : i < length ys = get_within ys i x e in omega arith

drop_nothing : {X : Type 0} (xs : List X) (n : ℕ) → drop n xs ≡ [] → length xs ≤ n
drop_nothing [] n e = omega arith
drop_nothing (x ∷ xs) zero e = absurd (cc)
drop_nothing (x ∷ xs) (suc n) e = let h : length xs ≤ n = drop_nothing xs n e in omega arith

drop_first : {X : Type 0} (xs : List X) (n : ℕ) (x : X) (more : List X) → drop n xs ≡ x ∷ more → (slice_get xs n ≡ Some x) × (drop (suc n) xs ≡ more)
drop_first [] zero x more e = absurd (cc)
drop_first [] (suc n) x more e = absurd (cc)
drop_first (y ∷ ys) zero x more e = (let f : y ≡ x = cc in ap (λ z. Some z) f, let f : ys ≡ more = cc in f)
drop_first (y ∷ ys) (suc n) x more e = drop_first ys n x more e

-- ---- all picked

formals_none : (s : Setting) (g : Proc) (args : List AnyOperand) (rest : List Formal) (number : ℕ) (L : Picks) (R : Sets) → FormalsAhead g rest number L → rest ≡ [] → (i : ℕ) → has_pick L i ≡ false → argument_set s R g args i ≡ None
formals_none s g args rest number L R h e i none = by_formal (slice_get g.formals i) refl
  where
    by_kind : (x : Formal) (b : Bool) → b ≡ is_pointer_kind x.kind → slice_get g.formals i ≡ Some x → (if b then Some (argument_codes s R (slice_get args i)) else None) ≡ None
    by_kind x false k f = refl
    by_kind x true k f = absurd (
        let many : length g.formals ≤ number = drop_nothing g.formals number (h.left ∙ e) in
        let low : i < length g.formals = get_within g.formals i x f in
        let lt : i < number = omega arith in
        let picked : has_pick L i ≡ true = h.earlier i x lt f (sym k) in
        let no : true ≡ false = sym picked ∙ none in cc)

    by_formal : (o : Option Formal) → slice_get g.formals i ≡ o → set_for o (argument_codes s R (slice_get args i)) ≡ None
    by_formal None f = refl
    by_formal (Some x) f = by_kind x (is_pointer_kind x.kind) refl f

pub formals_end : (s : Setting) (T : Sets) (t : ℕ) (into : Option ℕ) (g : Proc) (args : List AnyOperand) (rest : List Formal) (number : ℕ) (L : Picks) (o : Option Missing) → FormalsAhead g rest number L → rest ≡ [] →
    MatchOption o (CellsOver s T t into g (pick_at L) Done) (λ m. Lacks T (λ R. CellsOver s R t into g (pick_at L) Done) m.to m.code) →
    MatchOption o (FormalsOver s T t into g args L) (λ m. Lacks T (λ R. FormalsOver s R t into g args L) m.to m.code)
formals_end s T t into g args rest number L o h e l =
    answer_part T (λ R. CellsOver s R t into g (pick_at L) Done) (λ R. FormalsOver s R t into g args L) o
    (λ q. over_end (argument_set s T g args) L (λ formal. CellsOver s T t into g formal Done) (formals_none s g args rest number L T h e) q)
    (λ R within w. over_start (argument_set s R g args) L (λ formal. CellsOver s R t into g formal Done) (formals_none s g args rest number L R h e) w) l

-- ---- one more

same_or_less : (i n : ℕ) → i < n + 1 → (i < n) ⊎ (i ≡ n)
same_or_less i n h = elim (cases_lt i n) [ inl lt ↦ inl lt | inr ge ↦ inr (omega arith) ]

pub formals_skip : (g : Proc) (rest more : List Formal) (x : Formal) (number : ℕ) (L : Picks) → rest ≡ x ∷ more → is_pointer_kind x.kind ≡ false → FormalsAhead g rest number L → FormalsAhead g more (number + 1) L
formals_skip g rest more x number L e k h =
    let first = drop_first g.formals number x more (h.left ∙ e) in
    record {
      left = ap (λ n. drop n g.formals) (add-one number) ∙ first.1;
      earlier = λ i y lt f p. elim (same_or_less i number lt) [
        | inl low ↦ h.earlier i y low f p
        | inr same ↦ absurd (
            let there : slice_get g.formals i ≡ Some x = subst (λ j. slice_get g.formals j ≡ Some x) (sym same) first.0 in
            let one : Some y ≡ Some x = sym f ∙ there in
            let f : y ≡ x = cc in
            let kind : is_pointer_kind x.kind ≡ true = subst (λ (z : Formal). is_pointer_kind z.kind ≡ true) f p in
            let no : true ≡ false = sym kind ∙ k in cc)
      ];
      later = λ i le. h.later i (omega arith);
    }

pub formals_pick : (g : Proc) (rest more : List Formal) (x : Formal) (number : ℕ) (c : Code) (p : _) (L : Picks) → rest ≡ x ∷ more → FormalsAhead g rest number L → FormalsAhead g more (number + 1) (Pick' number c p L)
formals_pick g rest more x number c p L e h =
    let first = drop_first g.formals number x more (h.left ∙ e) in
    record {
      left = ap (λ n. drop n g.formals) (add-one number) ∙ first.1;
      earlier = λ i y lt f q. elim (eqb_tells number i) [
        | inl (t, same) ↦ ap (λ b. if b then true else has_pick L i) t
        | inr (t, other) ↦ ap (λ b. if b then true else has_pick L i) t ∙ h.earlier i y (below i number (λ same. other (sym same)) lt) f q
      ];
      later = λ i le. elim (eqb_tells number i) [
        | inl (t, same) ↦ absurd (omega (arith, same, le))
        | inr (t, other) ↦ ap (λ b. if b then true else has_pick L i) t ∙ h.later i (omega arith)
      ];
    }
  where
    below : (i n : ℕ) → (i ≡ n → ⊥) → i < n + 1 → i < n
    below i n ne lt = elim (same_or_less i n lt) [ inl low ↦ low | inr same ↦ absurd (ne same) ]

-- ---- the codes of an argument

arguments_grow : (s : Setting) (T R : Sets) (a : Option AnyOperand) (c : Code) → IsWithin T R → Contains (argument_codes s T a) c → Contains (argument_codes s R a) c
arguments_grow s T R None c within x = x
arguments_grow s T R (Some any.Null) c within x = x
arguments_grow s T R (Some (any.Operand (operand.Var y))) c within x = place_grows T R (variable_number s.proc y) c within x
arguments_grow s T R (Some (any.Operand (operand.Number z))) c within x = x

set_here : (s : Setting) (R : Sets) (g : Proc) (args : List AnyOperand) (number : ℕ) (x : Formal) → slice_get g.formals number ≡ Some x → is_pointer_kind x.kind ≡ true → argument_set s R g args number ≡ Some (argument_codes s R (slice_get args number))
set_here s R g args number x e k =
    ap (λ o. set_for o (argument_codes s R (slice_get args number))) e ∙ ap (λ b. if b then Some (argument_codes s R (slice_get args number)) else None) k

pub formals_lack : (s : Setting) (T : Sets) (t : ℕ) (into : Option ℕ) (g : Proc) (args : List AnyOperand) (rest more : List Formal) (x : Formal) (number : ℕ) (L : Picks) (ns : List ℤ) (i to : ℕ) (c code : Code) →
    FormalsAhead g rest number L → rest ≡ x ∷ more → is_pointer_kind x.kind ≡ true → row_codes ns ≡ argument_codes s T (slice_get args number) → i < length ns → c ≡ code_of (slice_index_or ns i (pos 0)) →
    Lacks T (λ R. FormalsPicked s R t into g args number c L) to code → Lacks T (λ R. FormalsOver s R t into g args L) to code
formals_lack s T t into g args rest more x number L ns i to c code h e k f lt is l =
    lacks_pick (λ R. argument_set s R g args) (λ R formal. CellsOver s R t into g formal Done) T L number c to code (h.later number (omega arith))
    (λ R within. record {
      codes = argument_codes s R (slice_get args number);
      is = set_here s R g args number x (drop_first g.formals number x more (h.left ∙ e)).0 k;
      there = arguments_grow s T R (slice_get args number) c within (subst (λ xs. Contains xs c) f (subst (λ z. Contains (row_codes ns) z) (sym is) (in_row ns i lt)));
    }) l

pub formals_all : (s : Setting) (T : Sets) (t : ℕ) (into : Option ℕ) (g : Proc) (args : List AnyOperand) (rest more : List Formal) (x : Formal) (number : ℕ) (L : Picks) (ns : List ℤ) (i : ℕ) →
    FormalsAhead g rest number L → rest ≡ x ∷ more → is_pointer_kind x.kind ≡ true → row_codes ns ≡ argument_codes s T (slice_get args number) → length ns ≤ i →
    ((k : ℕ) (d : ℤ) → k < i → FormalsPicked s T t into g args number (code_of (slice_index_or ns k d)) L) → FormalsOver s T t into g args L
formals_all s T t into g args rest more x number L ns i h e k f ge before =
    over_pick (argument_set s T g args) L (λ formal. CellsOver s T t into g formal Done) number (row_codes ns) (h.later number (omega arith))
    (set_here s T g args number x (drop_first g.formals number x more (h.left ∙ e)).0 k ∙ ap (λ xs. Some xs) (sym f))
    (all_passed (λ c. FormalsPicked s T t into g args number c L) ns i ge before)

pub formals_begin : (g : Proc) (fs : List Formal) → fs ≡ g.formals → FormalsAhead g fs 0 Done
formals_begin g fs e = record {
  left = sym e;
  earlier = λ i x lt f p. absurd (omega arith);
  later = λ i le. refl;
}

-- ---- the call of a procedure

pub callee_as : (s : Setting) (T : Sets) (t : ℕ) (into : Option ℕ) (g : Proc) (args : List AnyOperand) (o : Option Missing) → changes_pointer s g into ≡ true →
    MatchOption o (FormalsOver s T t into g args Done) (λ m. Lacks T (λ R. FormalsOver s R t into g args Done) m.to m.code) →
    MatchOption o (CalleeHolds s T t into args (Some g)) (λ m. Lacks T (λ R. CalleeHolds s R t into args (Some g)) m.to m.code)
callee_as s T t into g args o e l =
    answer_part T (λ R. FormalsOver s R t into g args Done) (λ R. CalleeHolds s R t into args (Some g)) o
    (λ q f K h. q K.formal h.formals K.cell h.cells)
    (λ R within w formal h cell k. w e (record { formal = formal; cell = cell }) (record { formals = h; cells = k })) l

pub callee_none : (s : Setting) (T : Sets) (t : ℕ) (into : Option ℕ) (g : Proc) (args : List AnyOperand) → changes_pointer s g into ≡ false → CalleeHolds s T t into args (Some g)
callee_none s T t into g args e = λ f. absurd (let no : true ≡ false = sym f ∙ e in cc)

pub procedure_none : (s : Setting) (T : Sets) (t : ℕ) (into : Option ℕ) (args : List AnyOperand) (g : Option Proc) → g ≡ None → CalleeHolds s T t into args g
procedure_none s T t into args g e = subst (λ o. CalleeHolds s T t into args o) (sym e) tt

pub procedure_as : (s : Setting) (T : Sets) (t : ℕ) (into : Option ℕ) (args : List AnyOperand) (g found : Option Proc) (o : Option Missing) → g ≡ found →
    MatchOption o (CalleeHolds s T t into args found) (λ m. Lacks T (λ R. CalleeHolds s R t into args found) m.to m.code) →
    MatchOption o (CalleeHolds s T t into args g) (λ m. Lacks T (λ R. CalleeHolds s R t into args g) m.to m.code)
procedure_as s T t into args g found o e l =
    subst (λ p. MatchOption o (CalleeHolds s T t into args p) (λ m. Lacks T (λ R. CalleeHolds s R t into args p) m.to m.code)) (sym e) l

pub call_malloc : (T : Sets) (A B : Sets → Type 0) (b : Bool) (o : Option Missing) → b ≡ true → MatchOption o (A T) (λ m. Lacks T A m.to m.code) →
    MatchOption o (Whether b (A T) (B T)) (λ m. Lacks T (λ R. Whether b (A R) (B R)) m.to m.code)
call_malloc T A B b o e l = subst (λ c. MatchOption o (Whether c (A T) (B T)) (λ m. Lacks T (λ R. Whether c (A R) (B R)) m.to m.code)) (sym e) l

pub call_other : (T : Sets) (A B : Sets → Type 0) (b : Bool) (o : Option Missing) → b ≡ false → MatchOption o (B T) (λ m. Lacks T B m.to m.code) →
    MatchOption o (Whether b (A T) (B T)) (λ m. Lacks T (λ R. Whether b (A R) (B R)) m.to m.code)
call_other T A B b o e l = subst (λ c. MatchOption o (Whether c (A T) (B T)) (λ m. Lacks T (λ R. Whether c (A R) (B R)) m.to m.code)) (sym e) l
