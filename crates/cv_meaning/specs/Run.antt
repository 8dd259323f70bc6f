-- A run of at most n steps.
use Rattle.std.specs.Prelude.{ℕ, zero, suc, ◌+◌, Bool, true, false, List, [], ◌∷◌, length, map, slice_get, Option, Some, None, Ok, Err, if◌then◌else◌, codes}
use Rattle.std.specs.Option.{option_map, option_and_then}
use Rattle.cv_core.specs.Names.{Name, place_of, stmts_of, local_site, locals_of}
use Rattle.cv_core.specs.declared.faults.ErrKind.{ErrKind}
use Rattle.cv_core.specs.declared.faults.ErrKind.TheVariants as err
use Rattle.cv_core.specs.declared.program.Program.{Program}
use Rattle.cv_core.specs.declared.program.Proc.{Proc}
use Rattle.cv_core.specs.declared.program.Stmt.{Stmt}
use Rattle.cv_core.specs.declared.program.Form.{Form}
use Rattle.cv_core.specs.declared.program.Form.TheVariants as form
use Rattle.cv_meaning.specs.declared.memory.Value.{Value}
use Rattle.cv_meaning.specs.declared.memory.World.{World}
use Rattle.cv_meaning.specs.Checked.{Checked}
use Rattle.cv_meaning.specs.Memory.{Memory}
use Rattle.cv_meaning.specs.State.{Frame, State, any_value, make_locals}
use Rattle.cv_meaning.specs.Step.{Next, step}
use Rattle.cv_meaning.specs.Call.{Turn, Errs, Goes, Enters, Leaves, call, leave, option_value, give, entered, may_enter}

-- how a run ends, with the output; a return leaves `left` steps
pub data End : Type 0 where
  Stopped : (output : List ℕ) → End
  Error : (kind : ErrKind) → (proc line : ℕ) → (output : List ℕ) → End
  Returned : (answer : Option Value) → (memory : Memory) → (left : ℕ) → (world : World) → (output : List ℕ) → End

abbrev pub as_goes : Next → Turn
as_goes (Ok next) = Goes next.0 next.1
as_goes (Err e) = Errs e

unfoldable pub turn : Program → Frame → ℕ → Form → State → Turn
turn P f k (form.Call into g args) s = call P f k into g (map (any_value s.vars) args) s
turn P f k (form.Return e) s = leave P f (option_value s e) s
turn P f k form s = as_goes (step P f k form s)

-- the variable that a call's result goes to
abbrev pub into_of : Form → Option Name
into_of (form.Call into g args) = into
into_of form = None

-- runs a frame from a statement and a state
abbrev pub Runner : Type 0
Runner = Frame → ℕ → State → ℕ → End

-- the caller goes on after the call that ended so
abbrev pub resume : Program → Runner → Frame → ℕ → Form → State → End → End
resume P rest f k form s (Returned answer memory left world output) =
    rest f (suc k) (give P f (into_of form) answer (record { vars = s.vars; memory = memory; world = world; output = output })) left
resume P rest f k form s (Stopped output) = Stopped output
resume P rest f k form s (Error kind proc line output) = Error kind proc line output

-- one step of a statement, and then `rest` with one step less
abbrev pub after : Program → Runner → Frame → ℕ → Stmt → State → ℕ → Turn → End
after P rest f k st s n (Errs kind) = Error kind f.number st.line s.output
after P rest f k st s n (Goes to next) = rest f to next n
after P rest f k st s n (Enters g inner) = resume P rest f k st.form s (rest g 0 inner n)
after P rest f k st s n (Leaves answer next) = Returned answer next.memory n next.world next.output

abbrev pub at_stmt : Program → Runner → Frame → ℕ → State → ℕ → Option Stmt → End
at_stmt P rest f k s n None = Stopped s.output
at_stmt P rest f k s n (Some st) = after P rest f k st s n (turn P f k st.form s)

-- where a step is left, it is taken, and `rest` runs on
unfoldable pub one_step : Program → Runner → Runner
one_step P rest f k s zero = Stopped s.output
one_step P rest f k s (suc n) = at_stmt P rest f k s n (slice_get (stmts_of f.proc.body) k)

-- the run in which at most `deep` steps nest or follow one another: for each n up to `deep` it is the run of n steps
unfoldable pub run_within : ℕ → Program → Runner
run_within zero P f k s n = Stopped s.output
run_within (suc deep) P f k s n = one_step P (run_within deep P) f k s n

unfoldable pub run : ℕ → Program → Frame → ℕ → State → End
run n P f k s = run_within n P f k s n

-- ---- from main's start

abbrev pub begin : ℕ → Program → Frame → Memory → World → End
begin n P f m w =
    if may_enter P f
    then run n P f 0 (make_locals P (local_site P f.number) (locals_of f.proc.body) (record { vars = f.formals; memory = m; world = w; output = [] }))
    else Error err.Requires f.number f.proc.line []

abbrev pub frame_of : Program → List Value → Memory → ℕ → Option Proc → Option Frame
frame_of P args m i g = option_map (λ h. entered P i h args m) g

-- main's frame at its start
abbrev pub main_frame : Program → List Value → Memory → Option Frame
main_frame P args m = option_and_then (λ i. frame_of P args m i (slice_get P.procs i)) (place_of (λ g. g.name) (codes "main") P.procs)

abbrev pub begin_at : ℕ → Program → Memory → World → Option Frame → End
begin_at n P m w None = Stopped []
begin_at n P m w (Some f) = begin n P f m w

-- the run of n steps of main
unfoldable pub run_main : ℕ → Program → List Value → Memory → World → End
run_main n P args m w = begin_at n P m w (main_frame P args m)
