-- How a machine ends, as the run does from where it stands.
use Rattle.std.specs.Prelude.{ℕ, Bool, true, false, List, [], ◌∷◌, slice_get, Option, Some, None, ℤ, pos}
use Rattle.cv_core.specs.Names.{Name, stmts_of}
use Rattle.cv_core.specs.declared.program.Program.{Program}
use Rattle.cv_core.specs.declared.program.Proc.{Proc}
use Rattle.cv_core.specs.declared.program.Stmt.{Stmt}
use Rattle.cv_core.specs.declared.program.Form.{Form}
use Rattle.cv_core.specs.declared.program.Form.TheVariants as form
use Rattle.cv_meaning.specs.declared.ends.RunEnd.{RunEnd}
use Rattle.cv_meaning.specs.declared.ends.RunEnd.TheVariants as how
use Rattle.cv_meaning.specs.declared.memory.Value.{Value}
use Rattle.cv_meaning.specs.declared.memory.Value.TheVariants as value
use Rattle.cv_meaning.specs.declared.memory.World.{World}
use Rattle.cv_meaning.specs.Look.{look}
use Rattle.cv_meaning.specs.State.{Frame, State}
use Rattle.cv_meaning.specs.Run.{End, Stopped, Error, Returned, Runner, into_of, run, resume}
use Rattle.cv_interp.specs.declared.machine.Ended.{Ended}
use Rattle.cv_interp.specs.declared.machine.Ended.TheVariants as ended
use Rattle.cv_interp.specs.declared.machine.Turn.{Turn}
use Rattle.cv_interp.specs.declared.machine.Turn.TheVariants as answers
use Rattle.cv_interp.specs.Level.{Level, Stack}

-- ---- what is seen of an end: how the run ended, and the output

pub record Outcome : Type 0 where
  pub how : RunEnd
  pub output : List ℕ

-- the number that main answered; a well-formed main answers an int
abbrev pub answer_of : Option Value → ℤ
answer_of (Some (value.Int z)) = z
answer_of v = pos 0

abbrev pub seen : End → Outcome
seen (Stopped output) = record { how = how.Stopped; output = output }
seen (Error kind proc line output) = record { how = how.Error kind proc line; output = output }
seen (Returned answer memory left world output) = record { how = how.Returned (answer_of answer); output = output }

-- ---- the levels of a stack

abbrev pub frame_of : Level → Frame
frame_of l = record { number = l.number; proc = l.proc; formals = look l.formals; entry = l.entry; permit = l.permit }

abbrev pub form_held : Option Stmt → Form
form_held None = form.Return None
form_held (Some s) = s.form

-- the call for which a level waits
abbrev pub form_of : Level → Form
form_of l = form_held (slice_get (stmts_of l.proc.body) l.at)

abbrev pub no_world : World
no_world = record { input = []; fresh = []; allocations = []; answers = [] }

-- the destination of the call at the statement k
abbrev pub into_at : Proc → ℕ → Option Name
into_at f k = into_of (form_held (slice_get (stmts_of f.body) k))

-- the state of a level that waits: its variables; the rest comes with the return
abbrev pub waiting_state : Level → State
waiting_state l = record { vars = look l.vars; memory = []; world = no_world; output = [] }

abbrev pub runs : Program → Runner
runs P f k s n = run n P f k s

-- where an end is a return, the levels below go on, one after the other
abbrev pub resumed : Program → List Level → End → End
resumed P [] e = e
resumed P (l ∷ ls) e = resume P (runs P) (frame_of l) l.at (form_of l) (waiting_state l) (resumed P ls e)

-- ---- the end of a machine

abbrev pub state_of : Stack → State
state_of m = record { vars = look m.running.vars; memory = m.memory; world = m.world; output = m.output }

abbrev pub end_from : Stack → Option Ended → ℕ → Outcome
end_from m None n = seen (resumed m.program m.waiting (run n m.program (frame_of m.running) m.running.at (state_of m)))
end_from m (Some (ended.Error kind proc line)) n = record { how = how.Error kind proc line; output = m.output }
end_from m (Some (ended.Returned z)) n = record { how = how.Returned z; output = m.output }

-- after n more steps; a machine that has ended has that end for every n
unfoldable pub end : Stack → ℕ → Outcome
end m n = end_from m m.ended n

-- where the level that runs has returned v with n steps left: those that wait go on
abbrev pub end_behind : Stack → Option Value → ℕ → Outcome
end_behind m v n = seen (resumed m.program m.waiting (Returned v m.memory n m.world m.output))

-- what a step answers
abbrev pub turn_of : RunEnd → Turn
turn_of how.Stopped = answers.On
turn_of (how.Error kind proc line) = answers.Error kind proc line
turn_of (how.Returned z) = answers.Returned z

-- ---- where a machine stands at a call

abbrev pub is_call : Form → Bool
is_call (form.Call into g args) = true
is_call form = false

abbrev pub stands_at_call : Stack → Option Ended → Bool
stands_at_call m None = is_call (form_of m.running)
stands_at_call m (Some e) = false

abbrev pub at_call : Stack → Bool
at_call m = stands_at_call m m.ended
