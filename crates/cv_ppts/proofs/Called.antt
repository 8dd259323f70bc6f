-- What a call asks for, part by part.
use Rattle.std.proofs.Common.{refl, ℕ, zero, suc, ◌≡◌, ◌<◌, ◌≤◌, ◌+◌, ◌-◌, Bool, true, false, List, [], ◌∷◌, length, Option, Some, ap, arith, drop, inl, inr, pos, slice_index_or, subst, sym, take, ◌∙◌, ◌&&◌, ◌||◌, not}
use Rattle.std.specs.List.{Contains}
use Rattle.std.specs.Option.{MatchOption}
use Rattle.std.proofs.Math.Seq.{take-length}
use Rattle.std.proofs.lemmas.Bool.{cases_lt}
use Rattle.std.specs.List.{list_any}
use Rattle.cv_core.specs.declared.program.Atom.{Atom}
use Rattle.cv_core.specs.declared.program.Item.{Item}
use Rattle.cv_core.specs.declared.program.Proc.{Proc}
use Rattle.cv_ppts.specs.Choices.{Choice, is_failing, item_target}
use Rattle.cv_ppts.specs.Lacking.{Lacks}
use Rattle.cv_ppts.specs.Numbers.{Rows, codes_of}
use Rattle.cv_ppts.specs.Outcomes.{Given, gift, is_false_atom, settled, walked, with_gift}
use Rattle.cv_ppts.specs.Plain.{HasCode, Sets, codes_at}
use Rattle.cv_ppts.specs.Setting.{Setting, is_fresh}
use Rattle.cv_ppts.specs.Targets.{AfterHolds, AlternativeHolds, AreLost, CellAsked, ChoiceHolds, GivenHolds, IsAsked, IsLost, MallocHolds, MaybeAsked, alternatives, assigned, is_new}
use Rattle.cv_ppts.specs.declared.code.Code.{Code}
use Rattle.cv_ppts.specs.declared.code.Code.TheVariants as coded
use Rattle.cv_ppts.specs.declared.outcomes.Gift.{Gift}
use Rattle.cv_ppts.specs.declared.sets.Missing.{Missing}
use Rattle.cv_ppts.proofs.Lacked.{answer_part, each_more, each_none, in_first, lacks_part}

-- ---- losses

empty_past : (T : Sets) (h : ℕ) → length T ≤ h → codes_at T h ≡ []
empty_past [] zero l = refl
empty_past [] (suc h) l = refl
empty_past (cs ∷ T) zero l = absurd (omega arith)
empty_past (cs ∷ T) (suc h) l = empty_past T h (omega arith)

nothing_past : (T : Sets) (h : ℕ) (c : Code) → length T ≤ h → HasCode T h c → ⊥
nothing_past T h c l x = let (k, lt, e) = subst (λ cs. Contains cs c) (empty_past T h l) x in omega arith

pub as_long : (S : Rows) → length (codes_of S) ≡ length S
as_long [] = refl
as_long (ns ∷ S) = ap suc (as_long S)

pub lost_all : (T : Sets) (t : ℕ) (into : Option ℕ) (i : ℕ) → length T ≤ i → ((k : ℕ) → k < i → (into ≡ Some k → ⊥) → IsLost T t k) → AreLost T t into
lost_all T t into i l before h ne = elim (cases_lt h i) [ inl lt ↦ before h lt ne | inr ge ↦ λ x. absurd (nothing_past T h (coded.Target t) (omega arith) x) ]

-- ---- malloc

pub malloc_first : (T : Sets) (t : ℕ) (into : Option ℕ) (h to : ℕ) (code : Code) → into ≡ Some h → Lacks T (λ R. HasCode R h coded.Null) to code → Lacks T (λ R. MallocHolds R t into) to code
malloc_first T t into h to code e l =
    subst (λ o. Lacks T (λ R. MallocHolds R t o) to code) (sym e)
    (lacks_part T (λ R. HasCode R h coded.Null) (λ R. MallocHolds R t (Some h)) to code (λ R within w. w.0) l)

pub malloc_second : (T : Sets) (t : ℕ) (into : Option ℕ) (h : ℕ) (o : Option Missing) → into ≡ Some h → HasCode T h coded.Null → MatchOption o (HasCode T h (coded.Target t)) (λ m. Lacks T (λ R. HasCode R h (coded.Target t)) m.to m.code) →
    MatchOption o (MallocHolds T t into) (λ m. Lacks T (λ R. MallocHolds R t into) m.to m.code)
malloc_second T t into h o e zero_there l =
    subst (λ i. MatchOption o (MallocHolds T t i) (λ m. Lacks T (λ R. MallocHolds R t i) m.to m.code)) (sym e)
    (answer_part T (λ R. HasCode R h (coded.Target t)) (λ R. MallocHolds R t (Some h)) o (λ q. (zero_there, q)) (λ R within w. w.1) l)

-- ---- what is asked for a code

pub asked_first : (T : Sets) (t : ℕ) (fresh : Bool) (c : Code) (h to : ℕ) (v code : Code) → v ≡ assigned t fresh c → Lacks T (λ R. HasCode R h v) to code → Lacks T (λ R. IsAsked R t fresh c h) to code
asked_first T t fresh c h to v code e l = lacks_part T (λ R. HasCode R h v) (λ R. IsAsked R t fresh c h) to code (λ R within w. subst (λ z. HasCode R h z) (sym e) w.code) l

pub asked_second : (T : Sets) (t : ℕ) (fresh : Bool) (c : Code) (h : ℕ) (v : Code) (o : Option Missing) → v ≡ assigned t fresh c → HasCode T h v → (fresh && not (is_new c)) ≡ true →
    MatchOption o (IsLost T t h) (λ m. Lacks T (λ R. IsLost R t h) m.to m.code) → MatchOption o (IsAsked T t fresh c h) (λ m. Lacks T (λ R. IsAsked R t fresh c h) m.to m.code)
asked_second T t fresh c h v o e there b l =
    answer_part T (λ R. IsLost R t h) (λ R. IsAsked R t fresh c h) o
    (λ q. record { code = subst (λ z. HasCode T h z) e there; lost = λ x. q }) (λ R within w. w.lost b) l

pub asked_all : (T : Sets) (t : ℕ) (fresh : Bool) (c : Code) (h : ℕ) (v : Code) → v ≡ assigned t fresh c → HasCode T h v → (fresh && not (is_new c)) ≡ false → IsAsked T t fresh c h
asked_all T t fresh c h v e there b = record { code = subst (λ z. HasCode T h z) e there; lost = λ x. absurd (let f : true ≡ false = sym x ∙ b in cc) }

-- ---- the first of some

pub peeled : {X : Type 0} (xs : List X) (x d : X) → 1 ≤ length xs → x ≡ slice_index_or xs 0 d → xs ≡ x ∷ take (length xs - 1) (drop 1 xs)
peeled [] x d le is = absurd (omega arith)
peeled (y ∷ ys) x d le is =
    let m : suc (length ys) - 1 ≡ length ys = omega arith in
    ap (λ z. z ∷ ys) (sym is) ∙ ap (λ zs. x ∷ zs) (sym (rw m (take-length ys)))

-- ---- what is given

pub given_first : (s : Setting) (T : Sets) (t : ℕ) (into : Option ℕ) (g : Proc) (K : Choice) (fresh : Bool) (given : Given) (v : Code) (to : ℕ) (code : Code) → v ≡ settled (given 0) →
    Lacks T (λ R. MaybeAsked R t fresh v into) to code → Lacks T (λ R. GivenHolds s R t into g K fresh given) to code
given_first s T t into g K fresh given v to code e l =
    lacks_part T (λ R. MaybeAsked R t fresh v into) (λ R. GivenHolds s R t into g K fresh given) to code
    (λ R within w. subst (λ z. MaybeAsked R t fresh z into) (sym e) w.result) l

pub given_rest : (s : Setting) (T : Sets) (t : ℕ) (into : Option ℕ) (g : Proc) (K : Choice) (fresh : Bool) (given : Given) (v : Code) (items : List Item) (o : Option Missing) → v ≡ settled (given 0) → items ≡ g.contract.changes →
    MaybeAsked T t fresh v into →
    MatchOption o ((x : Item) → Contains items x → CellAsked s T t fresh given (item_target s g K x)) (λ m. Lacks T (λ R. (x : Item) → Contains items x → CellAsked s R t fresh given (item_target s g K x)) m.to m.code) →
    MatchOption o (GivenHolds s T t into g K fresh given) (λ m. Lacks T (λ R. GivenHolds s R t into g K fresh given) m.to m.code)
given_rest s T t into g K fresh given v items o e f here l =
    answer_part T (λ R. (x : Item) → Contains items x → CellAsked s R t fresh given (item_target s g K x)) (λ R. GivenHolds s R t into g K fresh given) o
    (λ q. record { result = subst (λ z. MaybeAsked T t fresh z into) e here; cells = subst (λ ys. (x : Item) → Contains ys x → CellAsked s T t fresh given (item_target s g K x)) f q })
    (λ R within w. subst (λ ys. (x : Item) → Contains ys x → CellAsked s R t fresh given (item_target s g K x)) (sym f) w.cells) l

pub after_given : (s : Setting) (T : Sets) (t : ℕ) (into : Option ℕ) (g : Proc) (K : Choice) (atoms : List Atom) (given : Given) (fresh : Bool) (o : Option Missing) → list_any (is_false_atom s g K given) atoms ≡ false → fresh ≡ list_any is_fresh atoms →
    MatchOption o (GivenHolds s T t into g K fresh given) (λ m. Lacks T (λ R. GivenHolds s R t into g K fresh given) m.to m.code) →
    MatchOption o (AfterHolds s T t into g K atoms given) (λ m. Lacks T (λ R. AfterHolds s R t into g K atoms given) m.to m.code)
after_given s T t into g K atoms given fresh o e f l =
    answer_part T (λ R. GivenHolds s R t into g K fresh given) (λ R. AfterHolds s R t into g K atoms given) o
    (λ q x. subst (λ b. GivenHolds s T t into g K b given) f q)
    (λ R within w. subst (λ b. GivenHolds s R t into g K b given) (sym f) (w e)) l

pub after_none : (s : Setting) (T : Sets) (t : ℕ) (into : Option ℕ) (g : Proc) (K : Choice) (atoms : List Atom) (given : Given) → list_any (is_false_atom s g K given) atoms ≡ true → AfterHolds s T t into g K atoms given
after_none s T t into g K atoms given e = λ x. absurd (let f : true ≡ false = sym e ∙ x in cc)

-- ---- the walk over an alternative

pub walk_moves : (s : Setting) (T : Sets) (t : ℕ) (into : Option ℕ) (g : Proc) (K : Choice) (atoms rest more : List Atom) (given next : Given) (o : Option Missing) → walked s g K given rest ≡ walked s g K next more →
    MatchOption o (AfterHolds s T t into g K atoms (walked s g K next more)) (λ m. Lacks T (λ R. AfterHolds s R t into g K atoms (walked s g K next more)) m.to m.code) →
    MatchOption o (AfterHolds s T t into g K atoms (walked s g K given rest)) (λ m. Lacks T (λ R. AfterHolds s R t into g K atoms (walked s g K given rest)) m.to m.code)
walk_moves s T t into g K atoms rest more given next o e l =
    subst (λ w. MatchOption o (AfterHolds s T t into g K atoms w) (λ m. Lacks T (λ R. AfterHolds s R t into g K atoms w) m.to m.code)) (sym e) l

pub walk_step : (s : Setting) (g : Proc) (K : Choice) (given : Given) (rest more : List Atom) (a : Atom) (gift_is : Option Gift) → rest ≡ a ∷ more → gift s g K given a ≡ gift_is →
    walked s g K given rest ≡ walked s g K (with_gift given gift_is) more
walk_step s g K given rest more a gift_is e f = ap (walked s g K given) e ∙ ap (λ o. walked s g K (with_gift given o) more) f

-- ---- alternatives and choices

pub no_ensures : (s : Setting) (T : Sets) (t : ℕ) (into : Option ℕ) (g : Proc) (K : Choice) (gives : List (List Atom)) (o : Option Missing) → gives ≡ [] →
    MatchOption o (AlternativeHolds s T t into g K []) (λ m. Lacks T (λ R. AlternativeHolds s R t into g K []) m.to m.code) →
    MatchOption o ((atoms : List Atom) → Contains (alternatives gives) atoms → AlternativeHolds s T t into g K atoms) (λ m. Lacks T (λ R. (atoms : List Atom) → Contains (alternatives gives) atoms → AlternativeHolds s R t into g K atoms) m.to m.code)
no_ensures s T t into g K gives o e l =
    answer_part T (λ R. AlternativeHolds s R t into g K []) (λ R. (atoms : List Atom) → Contains (alternatives gives) atoms → AlternativeHolds s R t into g K atoms) o
    (λ q. subst (λ xs. (atoms : List Atom) → Contains (alternatives xs) atoms → AlternativeHolds s T t into g K atoms) (sym e) (each_more (AlternativeHolds s T t into g K) [] [] q (each_none (AlternativeHolds s T t into g K))))
    (λ R within w. w [] (subst (λ xs. Contains (alternatives xs) []) (sym e) (in_first [] []))) l

some_alternatives : (gives : List (List Atom)) → (gives ≡ [] → ⊥) → alternatives gives ≡ gives
some_alternatives [] h = absurd (h refl)
some_alternatives (a ∷ more) h = refl

pub some_ensures : (s : Setting) (T : Sets) (t : ℕ) (into : Option ℕ) (g : Proc) (K : Choice) (gives : List (List Atom)) (o : Option Missing) → (gives ≡ [] → ⊥) →
    MatchOption o ((atoms : List Atom) → Contains gives atoms → AlternativeHolds s T t into g K atoms) (λ m. Lacks T (λ R. (atoms : List Atom) → Contains gives atoms → AlternativeHolds s R t into g K atoms) m.to m.code) →
    MatchOption o ((atoms : List Atom) → Contains (alternatives gives) atoms → AlternativeHolds s T t into g K atoms) (λ m. Lacks T (λ R. (atoms : List Atom) → Contains (alternatives gives) atoms → AlternativeHolds s R t into g K atoms) m.to m.code)
some_ensures s T t into g K gives o h l =
    subst (λ xs. MatchOption o ((atoms : List Atom) → Contains xs atoms → AlternativeHolds s T t into g K atoms) (λ m. Lacks T (λ R. (atoms : List Atom) → Contains xs atoms → AlternativeHolds s R t into g K atoms) m.to m.code))
    (sym (some_alternatives gives h)) l

pub choice_passes : (s : Setting) (T : Sets) (t : ℕ) (into : Option ℕ) (g : Proc) (K : Choice) (gives : List (List Atom)) (o : Option Missing) → gives ≡ g.contract.gives → is_failing s g K ≡ false →
    MatchOption o ((atoms : List Atom) → Contains (alternatives gives) atoms → AlternativeHolds s T t into g K atoms) (λ m. Lacks T (λ R. (atoms : List Atom) → Contains (alternatives gives) atoms → AlternativeHolds s R t into g K atoms) m.to m.code) →
    MatchOption o (ChoiceHolds s T t into g K) (λ m. Lacks T (λ R. ChoiceHolds s R t into g K) m.to m.code)
choice_passes s T t into g K gives o e f l =
    answer_part T (λ R. (atoms : List Atom) → Contains (alternatives gives) atoms → AlternativeHolds s R t into g K atoms) (λ R. ChoiceHolds s R t into g K) o
    (λ q x. subst (λ xs. (atoms : List Atom) → Contains (alternatives xs) atoms → AlternativeHolds s T t into g K atoms) e q)
    (λ R within w. subst (λ xs. (atoms : List Atom) → Contains (alternatives xs) atoms → AlternativeHolds s R t into g K atoms) (sym e) (w f)) l

pub choice_fails : (s : Setting) (T : Sets) (t : ℕ) (into : Option ℕ) (g : Proc) (K : Choice) → is_failing s g K ≡ true → ChoiceHolds s T t into g K
choice_fails s T t into g K e = λ x. absurd (let f : true ≡ false = sym e ∙ x in cc)

pub fewer : {X : Type 0} (xs : List X) (x : X) (more : List X) (number all : ℕ) → xs ≡ x ∷ more → number + length xs ≤ all → number + 1 + length more ≤ all
fewer xs x more number all e h = let f : length xs ≡ suc (length more) = ap length e in omega arith

pub as_many : {X : Type 0} (xs ys : List X) → xs ≡ ys → 0 + length xs ≤ length ys
as_many xs ys e = let f : length xs ≡ length ys = ap length e in omega arith

pub any_found : {X : Type 0} (p : X → Bool) (xs : List X) (x : X) (more : List X) (all : Bool) → xs ≡ x ∷ more → p x ≡ true → list_any p xs ≡ all → true ≡ all
any_found p xs x more all e h inv = sym (ap (λ b. b || list_any p more) h) ∙ sym (ap (list_any p) e) ∙ inv

pub any_passed : {X : Type 0} (p : X → Bool) (xs : List X) (x : X) (more : List X) (all : Bool) → xs ≡ x ∷ more → p x ≡ false → list_any p xs ≡ all → list_any p more ≡ all
any_passed p xs x more all e h inv = sym (ap (λ b. b || list_any p more) h) ∙ sym (ap (list_any p) e) ∙ inv

pub shorter : {X : Type 0} (xs : List X) (x : X) (more : List X) → xs ≡ x ∷ more → length more < length xs
shorter xs x more e = let f : length xs ≡ suc (length more) = ap length e in omega arith
