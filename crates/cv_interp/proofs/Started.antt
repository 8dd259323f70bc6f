-- The first memory and the first variables are sound.
use Rattle.std.proofs.Common.{◌≡◌, refl, sym, subst, ℕ, zero, suc, ◌+◌, ◌<◌, ◌≤◌, ◌^◌, true, List, [], ◌∷◌, ◌++◌, length, replicate, Option, Some, None, arith, pos}
use Rattle.std.specs.Prelude.{All, slice_get, IsSome}
use Rattle.std.specs.Str.{bytes_eq}
use Rattle.std.proofs.lemmas.Bool.{ltb-false}
use Rattle.std.proofs.lemmas.List.{length-append, length-replicate}
use Rattle.cv_core.specs.Both.{first_true, second_true}
use Rattle.cv_core.specs.Grammar.{IsGlobalBody, IsName, IsWritten}
use Rattle.cv_core.specs.Limits.{first_limit, is_passed, passes, tested}
use Rattle.cv_core.specs.Names.{Name, kind_among, locals_of}
use Rattle.cv_core.specs.declared.faults.LimitName.TheVariants as limit
use Rattle.cv_core.specs.declared.program.Program.{Program}
use Rattle.cv_core.specs.declared.program.Proc.{Proc}
use Rattle.cv_core.specs.declared.program.Formal.{Formal}
use Rattle.cv_core.specs.declared.program.GlobalDecl.{GlobalDecl}
use Rattle.cv_core.specs.declared.program.GlobalBody.{GlobalBody}
use Rattle.cv_core.specs.declared.program.GlobalBody.TheVariants as global
use Rattle.cv_core.specs.declared.program.Literal.{Literal}
use Rattle.cv_core.specs.declared.program.VarKind.{VarKind}
use Rattle.cv_core.specs.declared.program.VarKind.TheVariants as kind
use Rattle.cv_meaning.specs.declared.ends.Arg.{Arg}
use Rattle.cv_meaning.specs.declared.ends.Arg.TheVariants as arg
use Rattle.cv_meaning.specs.declared.memory.Object.{Object}
use Rattle.cv_meaning.specs.declared.memory.Body.TheVariants.{Buffer}
use Rattle.cv_meaning.specs.declared.memory.Ptr.TheVariants.{Null, At}
use Rattle.cv_meaning.specs.declared.memory.Value.TheVariants as value
use Rattle.cv_meaning.specs.Clean.{literal_objects}
use Rattle.cv_meaning.specs.Memory.{Memory, cell_at, cell_held, cell_in}
use Rattle.cv_meaning.specs.State.{bind, no_vars}
use Rattle.cv_interp.proofs.Arriving.{Holds, either_holds}
use Rattle.cv_core.specs.Within.{any_at, none_at}
use Rattle.cv_interp.proofs.Limited.{all_at}
use Rattle.cv_interp.proofs.Memories.{IsObject, cell_of_object, some_cell}
use Rattle.cv_interp.specs.Sound.{HasGlobals, IsFit, IsMemory, Keeps, is_cell_global, is_cell_kind}
use Rattle.cv_interp.specs.Start.{HasFewBytes, arg_values, fit, fits_kind, global_body, global_objects, out_objects, start_memory, start_values}
use Rattle.cv_interp.specs.Takes.{IsNear}

-- ---- objects

short_object : (site : ℕ) (bytes : List ℕ) → length bytes < 2 ^ 31 → IsObject (record { site = site; live = true; body = Buffer bytes })
short_object site bytes lt = record { short = lt; near = λ v e. absurd (cc) }

ended_object : (site : ℕ) (bytes : List ℕ) → length bytes ≤ 1048576 → IsObject (record { site = site; live = true; body = Buffer (bytes ++ 0 ∷ []) })
ended_object site bytes le = short_object site (bytes ++ 0 ∷ []) (omega (arith, length-append bytes (0 ∷ [])))

global_object : (site : ℕ) (b : GlobalBody) → IsGlobalBody b → IsObject (record { site = site; live = true; body = global_body b })
global_object site (global.Buffer n) h = short_object site (replicate n 0) (subst (λ k. k < 2 ^ 31) (sym (length-replicate n 0)) h.1)
global_object site global.Pointer h = record { short = omega arith; near = λ v e. let same : value.Ptr Null ≡ v = cc in subst IsNear same tt }
global_object site global.Int h = record { short = omega arith; near = λ v e. let same : value.Int (pos 0) ≡ v = cc in subst IsNear same tt }

-- each object of a memory may stand in one
abbrev AreObjects : Memory → Type 0
AreObjects m = (i : ℕ) (x : Object) → slice_get m i ≡ Some x → IsObject x

no_objects : AreObjects []
no_objects = λ i x e. none i x e
  where
    none : (i : ℕ) (x : Object) → slice_get {X = Object} [] i ≡ Some x → IsObject x
    none zero x e = absurd (cc)
    none (suc i) x e = absurd (cc)

one_more : (y : Object) (m : Memory) → IsObject y → AreObjects m → (i : ℕ) (x : Object) → slice_get (y ∷ m) i ≡ Some x → IsObject x
one_more y m h others zero x e = let same : y ≡ x = cc in subst IsObject same h
one_more y m h others (suc i) x e = others i x e

all_more : (m n : Memory) → AreObjects m → AreObjects n → AreObjects (m ++ n)
all_more [] n h others = others
all_more (y ∷ m) n h others = one_more y (m ++ n) (h 0 y refl) (all_more m n (λ i x e. h (suc i) x e) others)

globals_are : (site : ℕ) (gs : List GlobalDecl) → ((i : ℕ) (g : GlobalDecl) → slice_get gs i ≡ Some g → IsGlobalBody g.body) → AreObjects (global_objects site gs)
globals_are site [] h = no_objects
globals_are site (g ∷ gs) h = one_more _ (global_objects (site + 1) gs) (global_object site g.body (h 0 g refl)) (globals_are (site + 1) gs (λ i x e. h (suc i) x e))

literals_are : (site : ℕ) (ls : List Literal) → ((i : ℕ) (l : Literal) → slice_get ls i ≡ Some l → length l.bytes ≤ 4096) → AreObjects (literal_objects site ls)
literals_are site [] h = no_objects
literals_are site (l ∷ ls) h =
    let few : length l.bytes ≤ 4096 = h 0 l refl in
    one_more _ (literal_objects (site + 1) ls) (ended_object site l.bytes (omega arith)) (literals_are (site + 1) ls (λ i x e. h (suc i) x e))

outs_are : (args : List Arg) → ((i : ℕ) (a : Arg) → slice_get args i ≡ Some a → HasFewBytes a) → AreObjects (out_objects args)
outs_are [] h = no_objects
outs_are (arg.Int z ∷ args) h = outs_are args (λ i a e. h (suc i) a e)
outs_are (arg.Text bytes ∷ args) h = one_more _ (out_objects args) (ended_object 0 bytes (h 0 (arg.Text bytes) refl)) (outs_are args (λ i a e. h (suc i) a e))

objects_memory : (m : Memory) → AreObjects m → IsMemory m
objects_memory m h = record {
  near = λ o v e. let (x, at, c) = cell_of_object (slice_get m o) v e in (h o x at).near v c;
  short = λ o x e. (h o x e).short;
}

few_bytes : (P : Program) → first_limit P ≡ None → (i : ℕ) (l : Literal) → slice_get P.literals i ≡ Some l → length l.bytes ≤ 4096
few_bytes P e i l at = ltb-false 4096 (length l.bytes) (any_at (λ (x : Literal). passes limit.Literal (length x.bytes)) P.literals i l (none_at (is_passed P) tested 3 limit.Literal e refl) at)

written_globals : (P : Program) → IsWritten P → (i : ℕ) (g : GlobalDecl) → slice_get P.globals i ≡ Some g → IsGlobalBody g.body
written_globals P w i g at = (all_at (λ (x : GlobalDecl). IsName x.name × IsGlobalBody x.body) P.globals i g w.globals at).1

pub start_is_memory : (P : Program) (args : List Arg) → IsWritten P → first_limit P ≡ None → All HasFewBytes args → IsMemory (start_memory P args)
start_is_memory P args w e few =
    let globals = globals_are 1 P.globals (written_globals P w) in
    let literals = literals_are (1 + length P.globals) P.literals (few_bytes P e) in
    let outs = outs_are args (λ i a at. all_at HasFewBytes args i a few at) in
    objects_memory (start_memory P args)
    (all_more (global_objects 1 P.globals ++ literal_objects (1 + length P.globals) P.literals) (out_objects args)
    (all_more (global_objects 1 P.globals) (literal_objects (1 + length P.globals) P.literals) globals literals) outs)

-- ---- the globals

body_cell : (b : GlobalBody) → is_cell_global b ≡ true → IsSome (cell_in (global_body b))
body_cell (global.Buffer n) c = absurd (cc)
body_cell global.Pointer c = refl
body_cell global.Int c = refl

global_cells : (site : ℕ) (gs : List GlobalDecl) (i : ℕ) (g : GlobalDecl) → slice_get gs i ≡ Some g → is_cell_global g.body ≡ true → IsSome (cell_at (global_objects site gs) i)
global_cells site [] zero g e c = absurd (cc)
global_cells site [] (suc i) g e c = absurd (cc)
global_cells site (x ∷ gs) zero g e c = let same : x ≡ g = cc in subst (λ (y : GlobalDecl). IsSome (cell_in (global_body y.body))) (sym same) (body_cell g.body c)
global_cells site (x ∷ gs) (suc i) g e c = global_cells (site + 1) gs i g e c

more_old : (m n : Memory) (i : ℕ) (x : Object) → slice_get m i ≡ Some x → slice_get (m ++ n) i ≡ Some x
more_old [] n zero x e = absurd (cc)
more_old [] n (suc i) x e = absurd (cc)
more_old (y ∷ m) n zero x e = e
more_old (y ∷ m) n (suc i) x e = more_old m n i x e

more_keeps : (m n : Memory) → Keeps m (m ++ n)
more_keeps m n = λ i c. let (x, at, d) = some_cell (slice_get m i) c in subst (λ (w : Option Object). IsSome (cell_held w)) (sym (more_old m n i x at)) d

pub start_globals : (P : Program) (args : List Arg) → HasGlobals P (start_memory P args)
start_globals P args = λ i g at c.
    let globals : Memory = global_objects 1 P.globals in
    let literals : Memory = literal_objects (1 + length P.globals) P.literals in
    more_keeps (globals ++ literals) (out_objects args) i (more_keeps globals literals i (global_cells 1 P.globals i g at c))

-- ---- the formals

text_plain : (k : VarKind) (bytes : List ℕ) → fits_kind k (arg.Text bytes) ≡ true → is_cell_kind k ≡ true → ⊥
text_plain kind.Int bytes h c = cc
text_plain kind.Char bytes h c = cc
text_plain kind.Ptr bytes h c = cc
text_plain kind.Pptr bytes h c = cc
text_plain kind.Iptr bytes h c = cc

args_hold : (m : Memory) (fs : List Formal) (ls : _) (n : ℕ) (args : List Arg) (x : Name) → fit fs args ≡ true → Holds m (kind_among x fs ls) (bind fs (arg_values n args) no_vars x)
args_hold m [] ls n args x h = (tt, λ c. tt)
args_hold m (f ∷ fs) ls n [] x h = absurd (cc)
args_hold m (f ∷ fs) ls n (arg.Int z ∷ args) x h =
    either_holds m (bytes_eq f.name x) f.kind (kind_among x fs ls) (value.Int z) (bind fs (arg_values n args) no_vars x) (tt, λ c. tt)
    (args_hold m fs ls n args x (second_true (fits_kind f.kind (arg.Int z)) (fit fs args) h))
args_hold m (f ∷ fs) ls n (arg.Text bytes ∷ args) x h =
    either_holds m (bytes_eq f.name x) f.kind (kind_among x fs ls) (value.Ptr (At n 0)) (bind fs (arg_values (n + 1) args) no_vars x)
    (omega arith, λ c. absurd (text_plain f.kind bytes (first_true (fits_kind f.kind (arg.Text bytes)) (fit fs args) h) c))
    (args_hold m fs ls (n + 1) args x (second_true (fits_kind f.kind (arg.Text bytes)) (fit fs args) h))

pub start_fit : (P : Program) (f : Proc) (m : Memory) (args : List Arg) → fit f.formals args ≡ true → IsFit f m (bind f.formals (start_values P args) no_vars)
start_fit P f m args h = λ x. let p = args_hold m f.formals (locals_of f.body) (length P.globals + length P.literals) args x h in record { near = p.0; cell = p.1 }
