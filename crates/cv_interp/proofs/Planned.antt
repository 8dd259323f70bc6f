-- What the plans of a program say: the object of a name, the line of a statement, the slots of the locals.
use Rattle.std.proofs.Common.{◌≡◌, refl, sym, ap, ◌∙◌, ℕ, zero, suc, ◌<◌, ◌≤◌, ◌+◌, Bool, true, false, cond, List, [], ◌∷◌, ◌++◌, append_assoc, length, map, sum, take, get_or, option_map, option_and_then, Option, Some, None, arith}
use Rattle.std.specs.Prelude.{◌^◌, IsSome, slice_get}
use Rattle.std.specs.List.{filter, find, position}
use Rattle.std.specs.Str.{bytes_eq}
use Rattle.std.proofs.lemmas.Option.{slice_get-get_or, slice_get-map, slice_get_within}
use Rattle.cv_core.specs.Names.{Name, is_object, local_site, locals_of, malloc_site, mallocs_in, objects_of, place_of, stmts_at, stmts_of}
use Rattle.cv_core.specs.declared.program.Program.{Program}
use Rattle.cv_core.specs.declared.program.Proc.{Proc}
use Rattle.cv_core.specs.declared.program.ProcBody.{ProcBody}
use Rattle.cv_core.specs.declared.program.Local.{Local}
use Rattle.cv_core.specs.declared.program.Stmt.{Stmt}
use Rattle.cv_core.specs.declared.program.Form.{Form}
use Rattle.cv_core.specs.declared.program.Form.TheVariants as form
use Rattle.cv_meaning.specs.Run.{into_of}
use Rattle.cv_meaning.specs.State.{Frame, address, address_in}
use Rattle.cv_interp.specs.declared.store.Line.{Line}
use Rattle.cv_interp.specs.declared.store.Plan.{Plan}
use Rattle.cv_interp.specs.Plans.{first_malloc, home_in, home_of, line_in, line_of, object_at, own_place, plan_of, plans_from, plans_of, slot_if}
use Rattle.cv_interp.specs.Machine.{form_held, into_at, is_call}
use Rattle.cv_interp.specs.Takes.{IsSmall}
use Rattle.cv_interp.specs.declared.store.Activation.{Activation}
use Rattle.cv_interp.proofs.Addressed.{Finds, finds}
use Rattle.cv_interp.proofs.Sums.{sum_cons}

by_place : (P : Program) (f : Frame) (a : Name) (o g l : Option ℕ) → object_at f.permit.first (home_in P o g l) ≡ address_in P f a o g l
by_place P f a (Some i) g l = refl
by_place P f a None (Some i) l = refl
by_place P f a None None (Some i) = refl
by_place P f a None None None = refl

pub address_is : (P : Program) (f : Frame) (a : Name) → object_at f.permit.first (home_of P f.proc a) ≡ address P f a
address_is P f a = by_place P f a (place_of (λ l. l.name) a (objects_of f.proc)) (place_of (λ g. g.name) a P.globals) (place_of (λ l. l.name) a P.literals)

-- ---- the place of a local object

within_by : {X : Type 0} (xs : List X) (o : Option X) (p : Option ℕ) (i : ℕ) → Finds xs o p → p ≡ Some i → i < length xs
within_by xs None p i h e = absurd (cc)
within_by xs (Some x) p i h e =
    let lt : h.0 < length xs = slice_get_within xs h.0 x h.2 in
    let same : h.0 ≡ i = cc in
    omega arith

pub place_within : {X : Type 0} (test : X → Bool) (xs : List X) (i : ℕ) → position test xs ≡ Some i → i < length xs
place_within test xs i e = within_by xs (find test xs) (position test xs) i (finds test xs) e

fewer : {X : Type 0} (b : Bool) (x : X) (xs : List X) (n : ℕ) → length xs ≤ n → length (cond b (x ∷ xs) xs) ≤ suc n
fewer true x xs n h = omega arith
fewer false x xs n h = omega arith

filter_le : {X : Type 0} (test : X → Bool) (xs : List X) → length (filter test xs) ≤ length xs
filter_le test [] = omega arith
filter_le test (x ∷ xs) = fewer (test x) x (filter test xs) (length xs) (filter_le test xs)

own_by : (P : Program) (n : ℕ) (o g l : Option ℕ) → ((i : ℕ) → o ≡ Some i → i < n) → own_place (home_in P o g l) ≤ n
own_by P n (Some i) g l h = let lt : i < n = h i refl in omega arith
own_by P n None (Some i) l h = omega arith
own_by P n None None (Some i) h = omega arith
own_by P n None None None h = omega arith

pub own_small : (P : Program) (a : Activation) (x : Name) → IsSmall a → a.permit.first + own_place (home_of P a.proc.now x) < 2 ^ 64
own_small P a x small =
    let own : own_place (home_of P a.proc.now x) ≤ length (objects_of a.proc.now) =
    own_by P (length (objects_of a.proc.now)) (place_of (λ l. l.name) x (objects_of a.proc.now)) (place_of (λ g. g.name) x P.globals) (place_of (λ l. l.name) x P.literals)
    (place_within (λ (l : Local). bytes_eq l.name x) (objects_of a.proc.now)) in
    let few : length (objects_of a.proc.now) ≤ length (locals_of a.proc.now.body) = filter_le (λ (l : Local). is_object l.body) (locals_of a.proc.now.body) in
    omega arith

-- ---- the plans of procedures that follow one another

pub more_plans : (P : Program) (site mallocs next later : ℕ) (old new : List Plan) (f : Proc) (fs : List Proc) → new ≡ old ++ plan_of P f site mallocs ∷ [] →
    next ≡ site + length (objects_of f) → later ≡ mallocs + mallocs_in (stmts_of f.body) → new ++ plans_from P next later fs ≡ old ++ plans_from P site mallocs (f ∷ fs)
more_plans P site mallocs next later old new f fs e n l =
    ap (λ ps. ps ++ plans_from P next later fs) e ∙ append_assoc old (plan_of P f site mallocs ∷ []) (plans_from P next later fs)
    ∙ ap (λ (m : ℕ). old ++ plan_of P f site mallocs ∷ plans_from P m later fs) n
    ∙ ap (λ (m : ℕ). old ++ plan_of P f site mallocs ∷ plans_from P (site + length (objects_of f)) m fs) l

abbrev objects_before : List Proc → ℕ → ℕ
objects_before fs i = sum (map (λ g. length (objects_of g)) (take i fs))

abbrev mallocs_before : List Proc → ℕ → ℕ
mallocs_before fs i = sum (map (λ g. mallocs_in (stmts_of g.body)) (take i fs))

plan_from : (P : Program) (site mallocs : ℕ) (fs : List Proc) (i : ℕ) (f : Proc) → slice_get fs i ≡ Some f →
    slice_get (plans_from P site mallocs fs) i ≡ Some (plan_of P f (site + objects_before fs i) (mallocs + mallocs_before fs i))
plan_from P site mallocs [] i f there = absurd (cc)
plan_from P site mallocs (g ∷ fs) zero f there =
    let same : g ≡ f = cc in
    let first : site ≡ site + 0 = omega arith in
    let second : mallocs ≡ mallocs + 0 = omega arith in
    ap (λ h. Some (plan_of P h site mallocs)) same ∙ ap (λ m. Some (plan_of P f m mallocs)) first ∙ ap (λ m. Some (plan_of P f (site + 0) m)) second
plan_from P site mallocs (g ∷ fs) (suc i) f there =
    let objects : objects_before (g ∷ fs) (suc i) ≡ length (objects_of g) + objects_before fs i = sum_cons (length (objects_of g)) (map (λ h. length (objects_of h)) (take i fs)) in
    let calls : mallocs_before (g ∷ fs) (suc i) ≡ mallocs_in (stmts_of g.body) + mallocs_before fs i = sum_cons (mallocs_in (stmts_of g.body)) (map (λ h. mallocs_in (stmts_of h.body)) (take i fs)) in
    let first : (site + length (objects_of g)) + objects_before fs i ≡ site + objects_before (g ∷ fs) (suc i) = omega arith in
    let second : (mallocs + mallocs_in (stmts_of g.body)) + mallocs_before fs i ≡ mallocs + mallocs_before (g ∷ fs) (suc i) = omega arith in
    plan_from P (site + length (objects_of g)) (mallocs + mallocs_in (stmts_of g.body)) fs i f there
    ∙ ap (λ m. Some (plan_of P f m ((mallocs + mallocs_in (stmts_of g.body)) + mallocs_before fs i))) first
    ∙ ap (λ m. Some (plan_of P f (site + objects_before (g ∷ fs) (suc i)) m)) second

no_objects : (P : Program) (i : ℕ) → local_site P 0 + objects_before P.procs i ≡ local_site P i
no_objects P i = omega arith

pub plan_is : (P : Program) (plans : List Plan) (i : ℕ) (f : Proc) → plans ≡ plans_of P → slice_get P.procs i ≡ Some f →
    slice_get plans i ≡ Some (plan_of P f (local_site P i) (first_malloc P i))
plan_is P plans i f e there =
    ap (λ ps. slice_get ps i) e ∙ plan_from P (local_site P 0) (local_site P (length P.procs)) P.procs i f there
    ∙ ap (λ m. Some (plan_of P f m (first_malloc P i))) (no_objects P i)

pub item_there : (xs ys : List Proc) (i : ℕ) (g : Proc) → xs ≡ ys → i < length ys → g ≡ get_or xs i g → slice_get ys i ≡ Some g
item_there xs ys i g e lt is = slice_get-get_or ys i g lt ∙ ap (λ zs. Some (get_or zs i g)) (sym e) ∙ ap Some (sym is)

pub plan_there : (P : Program) (plans : List Plan) (i : ℕ) (f : Proc) → plans ≡ plans_of P → slice_get P.procs i ≡ Some f → i < length plans
plan_there P plans i f e there = slice_get_within plans i (plan_of P f (local_site P i) (first_malloc P i)) (plan_is P plans i f e there)

pub plan_stands : (P : Program) (plans : List Plan) (i : ℕ) (f : Proc) (p : Plan) → plans ≡ plans_of P → slice_get P.procs i ≡ Some f → slice_get plans i ≡ Some p →
    p ≡ plan_of P f (local_site P i) (first_malloc P i)
plan_stands P plans i f p e there is = let same : Some p ≡ Some (plan_of P f (local_site P i) (first_malloc P i)) = sym is ∙ plan_is P plans i f e there in cc

pub malloc_is : (P : Program) (i k n m : ℕ) (b : Option ProcBody) → n ≡ first_malloc P i → stmts_at P.procs i ≡ stmts_of b → m ≡ n + mallocs_in (take k (stmts_of b)) → m ≡ malloc_site P i k
malloc_is P i k n m b first at is =
    is ∙ ap (λ j. j + mallocs_in (take k (stmts_of b))) first ∙ ap (λ ss. first_malloc P i + mallocs_in (take k ss)) (sym at)

-- ---- the line of a statement

pub line_is : (P : Program) (plans : List Plan) (i k : ℕ) (f : Proc) (st : Stmt) → plans ≡ plans_of P → slice_get P.procs i ≡ Some f → slice_get (stmts_of f.body) k ≡ Some st →
    line_in plans i k ≡ Some (line_of P f st.form)
line_is P plans i k f st e there at =
    ap (option_and_then (λ (p : Plan). slice_get p.lines k)) (plan_is P plans i f e there)
    ∙ slice_get-map (λ (s : Stmt). line_of P f s.form) (stmts_of f.body) k ∙ ap (option_map (λ (s : Stmt). line_of P f s.form)) at

pub line_there : (P : Program) (plans : List Plan) (i k : ℕ) (f : Proc) (st : Stmt) → plans ≡ plans_of P → slice_get P.procs i ≡ Some f → slice_get (stmts_of f.body) k ≡ Some st →
    IsSome (line_in plans i k)
line_there P plans i k f st e there at = rw (line_is P plans i k f st e there at) refl

pub line_stands : (P : Program) (plans : List Plan) (i k : ℕ) (f : Proc) (st : Stmt) (line : Line) → plans ≡ plans_of P → slice_get P.procs i ≡ Some f →
    slice_get (stmts_of f.body) k ≡ Some st → line_in plans i k ≡ Some line → line ≡ line_of P f st.form
line_stands P plans i k f st line e there at is = let same : Some line ≡ Some (line_of P f st.form) = sym is ∙ line_is P plans i k f st e there at in cc

first_into : (P : Program) (f : Proc) (g : Form) → is_call g ≡ true → (line_of P f g).first ≡ slot_if f (into_of g)
first_into P f (form.Call into x args) h = refl
first_into P f g h = absurd (cc)

-- the slot of the destination of a call
pub into_slot : (P : Program) (plans : List Plan) (i k : ℕ) (f : Proc) (st : Stmt) (line : Line) → plans ≡ plans_of P → slice_get P.procs i ≡ Some f →
    slice_get (stmts_of f.body) k ≡ Some st → is_call st.form ≡ true → line_in plans i k ≡ Some line → line.first ≡ slot_if f (into_at f k)
into_slot P plans i k f st line e there at call is =
    ap (λ (l : Line). l.first) (line_stands P plans i k f st line e there at is) ∙ first_into P f st.form call
    ∙ ap (λ (o : Option Stmt). slot_if f (into_of (form_held o))) (sym at)
