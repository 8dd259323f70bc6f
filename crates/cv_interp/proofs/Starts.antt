-- What a run starts with is a start state of the definition of a clean program.
use Rattle.std.proofs.Common.{ℕ, zero, suc, ◌+◌, ◌<◌, ◌≤◌, ◌≡◌, ◌^◌, Bool, true, false, IsTrue, ◌&&◌, List, [], ◌∷◌, ◌++◌, length, replicate, All, Option, None, Some, ℤ, refl, sym, ap, ◌∙◌, lit<, subst, arith, rules, append_assoc}
use Rattle.std.specs.Prelude.{slice_get, codes}
use Rattle.std.specs.Option.{option_and_then}
use Rattle.std.proofs.lemmas.List.{length-append, length-replicate}
use Rattle.std.proofs.lemmas.List.Elements.{All-nil, All-cons, All-head, All-tail, All-append, All-replicate}
use Rattle.cv_core.specs.Grammar.{IsName, IsWritten}
use Rattle.cv_core.specs.Grammar as grammar
use Rattle.cv_core.specs.Names.{place_of}
use Rattle.cv_core.specs.declared.program.Program.{Program}
use Rattle.cv_core.specs.declared.program.Proc.{Proc}
use Rattle.cv_core.specs.declared.program.GlobalDecl.{GlobalDecl}
use Rattle.cv_core.specs.declared.program.GlobalBody.{GlobalBody}
use Rattle.cv_core.specs.declared.program.GlobalBody.TheVariants as global
use Rattle.cv_core.specs.declared.program.Formal.{Formal}
use Rattle.cv_core.specs.declared.program.VarKind.{VarKind}
use Rattle.cv_core.specs.declared.program.VarKind.TheVariants as kind
use Rattle.cv_meaning.specs.declared.ends.Arg.{Arg}
use Rattle.cv_meaning.specs.declared.ends.Arg.TheVariants as arg
use Rattle.cv_meaning.specs.declared.memory.Object.{Object}
use Rattle.cv_meaning.specs.declared.memory.Body.TheVariants.{Buffer}
use Rattle.cv_meaning.specs.declared.memory.Ptr.{Ptr}
use Rattle.cv_meaning.specs.declared.memory.Ptr.TheVariants.{Null, At}
use Rattle.cv_meaning.specs.declared.memory.Value.{Value}
use Rattle.cv_meaning.specs.declared.memory.Value.TheVariants as value
use Rattle.cv_meaning.specs.Call.{entered}
use Rattle.cv_meaning.specs.Clean.{AreArgs, AreBytes, AreGlobals, IsArg, IsInt, IsOut, IsOuter, IsStart, literal_objects}
use Rattle.cv_meaning.specs.Clean as clean
use Rattle.cv_meaning.specs.Memory.{Memory}
use Rattle.cv_meaning.specs.Run.{frame_of, main_frame}
use Rattle.cv_meaning.specs.State.{Frame}
use Rattle.cv_interp.specs.Start.{IsGiven, StartsAsDefined, arg_values, are_mains, fit, fits_kind, formals_of, global_body, global_objects, main_of, out_objects, start_memory, start_values}
use Rattle.cv_interp.proofs.Begun.{start_length}

-- ---- the globals

zeros_are : (n : ℕ) → n < 2 ^ 31 → AreBytes (replicate n 0) × (length {A = ℕ} (replicate n 0) ≡ n)
zeros_are n few =
    let zeros : List ℕ = replicate n 0 in
    let long : length zeros ≡ n = length-replicate n 0 in
    ((All-replicate (λ b. b < 256) n 0 (lit< tt), subst (λ (k : ℕ). k < 2 ^ 31) (sym long) few), long)

global_made : (outer : Ptr → Type 0) → outer Null → (g : GlobalBody) → grammar.IsGlobalBody g → clean.IsGlobalBody outer g (global_body g)
global_made outer null (global.Buffer n) h = zeros_are n h.1
global_made outer null global.Pointer h = null
global_made outer null global.Int h = (search rules, search rules)

globals_made : (outer : Ptr → Type 0) → outer Null → (site : ℕ) (gs : List GlobalDecl) → All (λ g. IsName g.name × grammar.IsGlobalBody g.body) gs →
    AreGlobals outer site gs (global_objects site gs)
globals_made outer null site [] h = tt
globals_made outer null site (g ∷ gs) h = (
  refl,
  refl,
  global_made outer null g.body (All-head (λ (d : GlobalDecl). IsName d.name × grammar.IsGlobalBody d.body) g gs h).1,
  globals_made outer null (site + 1) gs (All-tail (λ (d : GlobalDecl). IsName d.name × grammar.IsGlobalBody d.body) g gs h),
)

-- ---- the texts

abbrev text_object : List ℕ → Object
text_object bytes = record { site = 0; live = true; body = Buffer (bytes ++ 0 ∷ []) }

text_made : (bytes : List ℕ) → IsGiven (arg.Text bytes) → IsOut (text_object bytes)
text_made bytes h =
    let long : length (bytes ++ 0 ∷ []) ≡ length bytes + 1 = length-append bytes (0 ∷ []) in
    let few = h.1 in
    (refl, refl, (All-append (λ b. b < 256) bytes (0 ∷ []) h.0 (All-cons (λ b. b < 256) 0 [] (omega arith) (All-nil (λ b. b < 256))), omega arith))

texts_made : (args : List Arg) → All IsGiven args → All IsOut (out_objects args)
texts_made [] h = All-nil IsOut
texts_made (arg.Int z ∷ args) h = texts_made args (All-tail IsGiven (arg.Int z) args h)
texts_made (arg.Text bytes ∷ args) h =
    All-cons IsOut (text_object bytes) (out_objects args) (text_made bytes (All-head IsGiven (arg.Text bytes) args h)) (texts_made args (All-tail IsGiven (arg.Text bytes) args h))

-- ---- the values of the formals

get_at : (front : Memory) (x : Object) (rest : Memory) → slice_get (front ++ x ∷ rest) (length front) ≡ Some x
get_at [] x rest = refl
get_at (y ∷ front) x rest = get_at front x rest

-- a pointer to the first byte of a text
pointed : (base : ℕ) (m front : Memory) (bytes : List ℕ) (rest : Memory) (next : ℕ) → m ≡ front ++ text_object bytes ∷ rest → length front ≡ next → base ≤ next → IsOuter base m (At next 0)
pointed base m front bytes rest next is long low =
    let there : slice_get m next ≡ Some (text_object bytes) =
    ap (λ (l : Memory). slice_get l next) is ∙ ap (λ (n : ℕ). slice_get (front ++ text_object bytes ∷ rest) n) (sym long) ∙ get_at front (text_object bytes) rest in
    (low, text_object bytes, there, omega arith)

both : (a b : Bool) → IsTrue (a && b) → (a ≡ true) × IsTrue b
both true b h = (refl, h)
both false b h = absurd (search rules)

int_given : (outer : Ptr → Type 0) (k : VarKind) (z : ℤ) → fits_kind k (arg.Int z) ≡ true → IsInt z → IsArg outer k (value.Int z)
int_given outer kind.Int z e h = h
int_given outer k z e h = absurd cc

text_given : (outer : Ptr → Type 0) (k : VarKind) (bytes : List ℕ) (p : Ptr) → fits_kind k (arg.Text bytes) ≡ true → outer p → IsArg outer k (value.Ptr p)
text_given outer kind.Ptr bytes p e h = h
text_given outer k bytes p e h = absurd cc

values_given : (fs : List Formal) (args : List Arg) (base next : ℕ) (m front : Memory) → IsTrue (fit fs args) → All IsGiven args → m ≡ front ++ out_objects args → length front ≡ next →
    base ≤ next → AreArgs (IsOuter base m) fs (arg_values next args)
values_given [] [] base next m front fits given is long low = tt
values_given [] (a ∷ args) base next m front fits given is long low = absurd (search rules)
values_given (f ∷ fs) [] base next m front fits given is long low = absurd (search rules)
values_given (f ∷ fs) (arg.Int z ∷ args) base next m front fits given is long low =
    let parts = both (fits_kind f.kind (arg.Int z)) (fit fs args) fits in (
      int_given (IsOuter base m) f.kind z parts.0 (All-head IsGiven (arg.Int z) args given),
      values_given fs args base next m front parts.1 (All-tail IsGiven (arg.Int z) args given) is long low,
    )
values_given (f ∷ fs) (arg.Text bytes ∷ args) base next m front fits given is long low =
    let parts = both (fits_kind f.kind (arg.Text bytes)) (fit fs args) fits in
    let more : length (front ++ text_object bytes ∷ []) ≡ next + 1 = length-append front (text_object bytes ∷ []) ∙ ap (λ (n : ℕ). n + 1) long in
    let grown : base ≤ next + 1 = omega (arith, low) in (
      text_given (IsOuter base m) f.kind bytes (At next 0) parts.0 (pointed base m front bytes (out_objects args) next is long low),
      values_given fs args base (next + 1) m (front ++ text_object bytes ∷ []) parts.1 (All-tail IsGiven (arg.Text bytes) args given)
          (is ∙ sym (append_assoc front (text_object bytes ∷ []) (out_objects args))) more grown,
    )

-- ---- main

proc_formals : (P : Program) (vs : List Value) (m : Memory) (f : Frame) (i : ℕ) (g : Option Proc) → frame_of P vs m i g ≡ Some f → f.proc.formals ≡ formals_of g
proc_formals P vs m f i None e = absurd cc
proc_formals P vs m f i (Some h) e = let same : entered P i h vs m ≡ f = cc in ap (λ (x : Frame). x.proc.formals) (sym same)

frame_formals : (P : Program) (vs : List Value) (m : Memory) (f : Frame) (o : Option ℕ) → option_and_then (λ i. frame_of P vs m i (slice_get P.procs i)) o ≡ Some f →
    f.proc.formals ≡ formals_of (option_and_then (λ i. slice_get P.procs i) o)
frame_formals P vs m f None e = absurd cc
frame_formals P vs m f (Some i) e = proc_formals P vs m f i (slice_get P.procs i) e

pub starts_as_defined : StartsAsDefined
starts_as_defined P args f written fits given frame =
    let front : Memory = global_objects 1 P.globals ++ literal_objects (1 + length P.globals) P.literals in
    let base : ℕ = length P.globals + length P.literals in
    let long : length front ≡ base = start_length P front (1 + length P.globals) refl in
    let main : f.proc.formals ≡ formals_of (main_of P) =
    frame_formals P (start_values P args) (start_memory P args) f (place_of (λ g. g.name) (codes "main") P.procs) frame in
    record {
      globals = global_objects 1 P.globals;
      outs = out_objects args;
      is = refl;
      are_globals = globals_made (IsOuter base (start_memory P args)) tt 1 P.globals written.globals;
      are_outs = texts_made args given;
      are_args = subst (λ (fs : List Formal). AreArgs (IsOuter base (start_memory P args)) fs (start_values P args)) (sym main)
          (values_given (formals_of (main_of P)) args base base (start_memory P args) front fits given refl long (omega arith));
    }
