-- The address of a cell is a cell of the memory.
use Rattle.std.proofs.Common.{◌≡◌, refl, sym, ap, subst, ◌∙◌, ℕ, suc, Bool, true, false, cond, List, [], ◌∷◌, Option, Some, None}
use Rattle.std.specs.Prelude.{slice_get, IsSome}
use Rattle.std.specs.List.{filter, find, position}
use Rattle.std.specs.Option.{option_map, option_or}
use Rattle.std.specs.Str.{bytes_eq}
use Rattle.cv_core.specs.Names.{Name, is_object, locals_of, objects_of, place_of}
use Rattle.cv_core.specs.declared.program.Program.{Program}
use Rattle.cv_core.specs.declared.program.Formal.{Formal}
use Rattle.cv_core.specs.declared.program.GlobalBody.{GlobalBody}
use Rattle.cv_core.specs.declared.program.GlobalBody.TheVariants as global
use Rattle.cv_core.specs.declared.program.GlobalDecl.{GlobalDecl}
use Rattle.cv_core.specs.declared.program.Literal.{Literal}
use Rattle.cv_core.specs.declared.program.Local.{Local}
use Rattle.cv_core.specs.declared.program.LocalBody.{LocalBody}
use Rattle.cv_core.specs.declared.program.LocalBody.TheVariants as local
use Rattle.cv_meaning.specs.Memory.{Memory, cell_at}
use Rattle.cv_meaning.specs.State.{Frame, address, address_in}
use Rattle.cv_interp.proofs.Kinded.{as_local, body_of, formal_body, outer_body}
use Rattle.cv_interp.proofs.Places.{position_cons}
use Rattle.cv_interp.specs.Sound.{HasGlobals, HasLocals, is_cell_global, is_cell_local}

abbrev pub IsCellBody : Option LocalBody → Type 0
IsCellBody None = ⊥
IsCellBody (Some b) = is_cell_local b ≡ true

-- ---- a name that an item has, at its place

-- None, or the place of the item
abbrev pub Finds : {X : Type 0} → List X → Option X → Option ℕ → Type 0
Finds xs None p = p ≡ None
Finds xs (Some x) p = (i : ℕ) × (p ≡ Some i) × (slice_get xs i ≡ Some x)

finds_step : {X : Type 0} (b : Bool) (y : X) (ys : List X) (o : Option X) (p : Option ℕ) → Finds ys o p → Finds (y ∷ ys) (cond b (Some y) o) (cond b (Some 0) (option_map suc p))
finds_step true y ys o p h = (0, refl, refl)
finds_step false y ys None p h = ap (option_map suc) h
finds_step false y ys (Some x) p h = (suc h.0, ap (option_map suc) h.1, h.2)

pub finds : {X : Type 0} (test : X → Bool) (xs : List X) → Finds xs (find test xs) (position test xs)
finds test [] = refl
finds test (y ∷ ys) =
    subst (λ p. Finds (y ∷ ys) (find test (y ∷ ys)) p) (sym (position_cons test y ys)) (finds_step (test y) y ys (find test ys) (position test ys) (finds test ys))

-- ---- the first local of a name, where it is an object, is the first object of the name

cell_object : (b : LocalBody) → is_cell_local b ≡ true → is_object b ≡ true
cell_object (local.Var k) h = absurd (cc)
cell_object (local.Buffer n) h = refl
cell_object local.PointerCell h = refl
cell_object local.IntCell h = refl

abbrev named : Name → List Local → Option Local
named x ls = find (λ l. bytes_eq l.name x) ls

abbrev objects_in : List Local → List Local
objects_in ls = filter (λ l. is_object l.body) ls

-- the first of the name, where it is an object, goes before the other objects
first_step : (n o : Bool) (x : Name) (k l : Local) (ks : List Local) → is_object k.body ≡ o → bytes_eq k.name x ≡ n → cond n (Some k) (named x ks) ≡ Some l → is_object l.body ≡ true →
    (named x ks ≡ Some l → named x (objects_in ks) ≡ Some l) → named x (cond o (k ∷ objects_in ks) (objects_in ks)) ≡ Some l
first_step true true x k l ks ob na e h ih = rw na e
first_step true false x k l ks ob na e h ih =
    let same : k ≡ l = cc in
    let t : is_object k.body ≡ true = ap (λ (j : Local). is_object j.body) same ∙ h in
    absurd (cc)
first_step false true x k l ks ob na e h ih = rw na (ih e)
first_step false false x k l ks ob na e h ih = ih e

object_first : (x : Name) (ls : List Local) (l : Local) → named x ls ≡ Some l → is_object l.body ≡ true → named x (objects_in ls) ≡ Some l
object_first x [] l e h = absurd (cc)
object_first x (k ∷ ks) l e h = first_step (bytes_eq k.name x) (is_object k.body) x k l ks refl refl e h (λ f. object_first x ks l f h)

none_step : (n o : Bool) (x : Name) (k : Local) (ks : List Local) → bytes_eq k.name x ≡ n → cond n (Some k) (named x ks) ≡ None →
    (named x ks ≡ None → named x (objects_in ks) ≡ None) → named x (cond o (k ∷ objects_in ks) (objects_in ks)) ≡ None
none_step true o x k ks na e ih = absurd (cc)
none_step false true x k ks na e ih = rw na (ih e)
none_step false false x k ks na e ih = ih e

no_object : (x : Name) (ls : List Local) → named x ls ≡ None → named x (objects_in ls) ≡ None
no_object x [] e = refl
no_object x (k ∷ ks) e = none_step (bytes_eq k.name x) (is_object k.body) x k ks refl e (λ f. no_object x ks f)

-- ---- the address

global_cell : (b : GlobalBody) → is_cell_local (as_local b) ≡ true → is_cell_global b ≡ true
global_cell (global.Buffer n) h = absurd (cc)
global_cell global.Pointer h = refl
global_cell global.Int h = refl

by_global : (P : Program) (f : Frame) (x : Name) (m : Memory) (g : Option GlobalDecl) (p : Option ℕ) (l : Option Literal) (q : Option ℕ) → HasGlobals P m → Finds P.globals g p →
    IsCellBody (outer_body g l) → IsSome (cell_at m (address_in P f x None p q))
by_global P f x m (Some g) p l q has e h = rw e.1 (has e.0 g e.2 (global_cell g.body h))
by_global P f x m None p (Some l) q has e h = absurd (cc)
by_global P f x m None p None q has e h = absurd h

by_local : (P : Program) (f : Frame) (x : Name) (m : Memory) (l : Option Local) → named x (locals_of f.proc.body) ≡ l → HasGlobals P m → HasLocals f.proc f.permit.first m →
    IsCellBody (option_or (option_map (λ l. l.body) l) (outer_body (find (λ g. bytes_eq g.name x) P.globals) (find (λ l. bytes_eq l.name x) P.literals))) → IsSome (cell_at m (address P f x))
by_local P f x m (Some l) e globals locals h =
    let p : Finds (objects_of f.proc) (Some l) (place_of (λ l. l.name) x (objects_of f.proc)) =
    subst (λ (r : Option Local). Finds (objects_of f.proc) r (place_of (λ l. l.name) x (objects_of f.proc))) (object_first x (locals_of f.proc.body) l e (cell_object l.body h))
    (finds (λ l. bytes_eq l.name x) (objects_of f.proc)) in
    rw p.1 (locals p.0 l p.2 h)
by_local P f x m None e globals locals h =
    let p : place_of (λ l. l.name) x (objects_of f.proc) ≡ None =
    subst (λ (r : Option Local). Finds (objects_of f.proc) r (place_of (λ l. l.name) x (objects_of f.proc))) (no_object x (locals_of f.proc.body) e)
    (finds (λ l. bytes_eq l.name x) (objects_of f.proc)) in
    rw p (by_global P f x m (find (λ g. bytes_eq g.name x) P.globals) (place_of (λ g. g.name) x P.globals) (find (λ l. bytes_eq l.name x) P.literals) (place_of (λ l. l.name) x P.literals)
    globals (finds (λ g. bytes_eq g.name x) P.globals) h)

no_formal : (f : Option Formal) (rest : Option LocalBody) → IsCellBody (option_or (formal_body f) rest) → IsCellBody rest
no_formal None rest h = h
no_formal (Some f) rest h = absurd (cc)

pub address_cell : (P : Program) (f : Frame) (x : Name) (m : Memory) → HasGlobals P m → HasLocals f.proc f.permit.first m → IsCellBody (body_of P f.proc x) → IsSome (cell_at m (address P f x))
address_cell P f x m globals locals h =
    by_local P f x m (named x (locals_of f.proc.body)) refl globals locals
    (no_formal (find (λ y. bytes_eq y.name x) f.proc.formals)
    (option_or (option_map (λ l. l.body) (named x (locals_of f.proc.body))) (outer_body (find (λ g. bytes_eq g.name x) P.globals) (find (λ l. bytes_eq l.name x) P.literals))) h)
