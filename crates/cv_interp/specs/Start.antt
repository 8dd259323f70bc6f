-- Where a run of main begins: the values of its formals, and the memory.
use Rattle.std.specs.Prelude.{ℕ, ◌+◌, ◌<◌, ◌≤◌, ◌≡◌, All, Bool, IsTrue, true, false, ◌&&◌, List, [], ◌∷◌, ◌++◌, length, replicate, slice_get, Option, Some, None, pos, codes}
use Rattle.std.specs.Option.{option_and_then}
use Rattle.cv_core.specs.Grammar.{IsWritten}
use Rattle.cv_core.specs.Names.{place_of}
use Rattle.cv_core.specs.declared.program.Program.{Program}
use Rattle.cv_core.specs.declared.program.Proc.{Proc}
use Rattle.cv_core.specs.declared.program.GlobalDecl.{GlobalDecl}
use Rattle.cv_core.specs.declared.program.GlobalBody.{GlobalBody}
use Rattle.cv_core.specs.declared.program.GlobalBody.TheVariants as global
use Rattle.cv_core.specs.declared.program.Formal.{Formal}
use Rattle.cv_core.specs.declared.program.VarKind.{VarKind}
use Rattle.cv_core.specs.declared.program.VarKind.TheVariants as kind
use Rattle.cv_meaning.specs.declared.ends.Arg.{Arg}
use Rattle.cv_meaning.specs.declared.ends.Arg.TheVariants as arg
use Rattle.cv_meaning.specs.declared.memory.Body.{Body}
use Rattle.cv_meaning.specs.declared.memory.Body.TheVariants.{Buffer, Cell}
use Rattle.cv_meaning.specs.declared.memory.Ptr.TheVariants.{Null, At}
use Rattle.cv_meaning.specs.declared.memory.Value.{Value}
use Rattle.cv_meaning.specs.declared.memory.Value.TheVariants as value
use Rattle.cv_meaning.specs.Memory.{Memory}
use Rattle.cv_meaning.specs.Clean.{IsInt, IsStart, literal_objects}
use Rattle.cv_meaning.specs.Run.{main_frame}
use Rattle.cv_meaning.specs.State.{Frame}
use Rattle.cv_interp.specs.declared.begin.StartError.{StartError}
use Rattle.cv_interp.specs.declared.begin.StartError.TheVariants as refusal

-- ---- the arguments

abbrev pub formals_of : Option Proc → List Formal
formals_of None = []
formals_of (Some f) = f.formals

abbrev pub main_of : Program → Option Proc
main_of P = option_and_then (λ i. slice_get P.procs i) (place_of (λ g. g.name) (codes "main") P.procs)

-- the procedure i is main
pub record IsMain (P : Program) (i : ℕ) (main : Proc) : Type 0 where
  pub place : place_of (λ g. g.name) (codes "main") P.procs ≡ Some i
  pub there : slice_get P.procs i ≡ Some main

abbrev pub fits_kind : VarKind → Arg → Bool
fits_kind kind.Int (arg.Int z) = true
fits_kind kind.Ptr (arg.Text bytes) = true
fits_kind k a = false

-- one argument for each formal, of its kind
abbrev pub fit : List Formal → List Arg → Bool
fit [] [] = true
fit (f ∷ fs) (a ∷ args) = fits_kind f.kind a && fit fs args
fit fs args = false

-- the arguments are main's
abbrev pub are_mains : Program → List Arg → Bool
are_mains P args = fit (formals_of (main_of P)) args

abbrev pub HasFewBytes : Arg → Type 0
HasFewBytes (arg.Int z) = Unit {0}
HasFewBytes (arg.Text bytes) = length bytes ≤ 1048576

-- ---- the memory: the globals, the literals, and a buffer for each text

abbrev pub global_body : GlobalBody → Body
global_body (global.Buffer n) = Buffer (replicate n 0)
global_body global.Pointer = Cell (value.Ptr Null)
global_body global.Int = Cell (value.Int (pos 0))

abbrev pub global_objects : ℕ → List GlobalDecl → Memory
global_objects site [] = []
global_objects site (g ∷ gs) = record { site = site; live = true; body = global_body g.body } ∷ global_objects (site + 1) gs

-- the site of a text is `out`, which is 0
abbrev pub out_objects : List Arg → Memory
out_objects [] = []
out_objects (arg.Int z ∷ args) = out_objects args
out_objects (arg.Text bytes ∷ args) = record { site = 0; live = true; body = Buffer (bytes ++ 0 ∷ []) } ∷ out_objects args

abbrev pub start_memory : Program → List Arg → Memory
start_memory P args = global_objects 1 P.globals ++ literal_objects (1 + length P.globals) P.literals ++ out_objects args

-- ---- the values of main's formals; `next` is the object of the next text

abbrev pub arg_values : ℕ → List Arg → List Value
arg_values next [] = []
arg_values next (arg.Int z ∷ args) = value.Int z ∷ arg_values next args
arg_values next (arg.Text bytes ∷ args) = value.Ptr (At next 0) ∷ arg_values (next + 1) args

abbrev pub start_values : Program → List Arg → List Value
start_values P args = arg_values (length P.globals + length P.literals) args

-- ---- what a refusal says

abbrev pub IsRefusal : Program → List Arg → StartError → Type 0
IsRefusal P args refusal.Args = are_mains P args ≡ false
IsRefusal P args refusal.Memory = Unit {0}

-- ---- the start states of the definition of a clean program

-- an int in its range, or at most 1048576 bytes
abbrev pub IsGiven : Arg → Type 0
IsGiven (arg.Int z) = IsInt z
IsGiven (arg.Text bytes) = All (λ b. b < 256) bytes × (length bytes ≤ 1048576)

-- what a run starts with is one of the start states over which a clean program is defined
abbrev pub StartsAsDefined : Type 0
StartsAsDefined = (P : Program) (args : List Arg) (f : Frame) → IsWritten P → IsTrue (are_mains P args) → All IsGiven args →
    main_frame P (start_values P args) (start_memory P args) ≡ Some f → IsStart P f.proc.formals (start_memory P args) (start_values P args)
