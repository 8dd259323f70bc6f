-- A run that has ended, ends likewise with more steps.
use Rattle.std.proofs.Common.{◌≡◌, refl, sym, ap, subst, ◌∙◌, ℕ, zero, suc, ◌+◌, List, Option, Some, None, arith, zero-add, add-zero}
use Rattle.std.specs.Prelude.{slice_get}
use Rattle.cv_core.specs.declared.faults.ErrKind.{ErrKind}
use Rattle.cv_core.specs.declared.program.Program.{Program}
use Rattle.cv_core.specs.declared.program.Form.{Form}
use Rattle.cv_core.specs.declared.program.Stmt.{Stmt}
use Rattle.cv_core.specs.Names.{stmts_of}
use Rattle.cv_meaning.specs.State.{Frame, State}
use Rattle.cv_meaning.specs.Call.{Turn, Errs, Goes, Enters, Leaves, give}
use Rattle.cv_meaning.specs.Run.{End, Stopped, Error, Returned, Runner, resume, after, at_stmt, turn, one_step, run_within, run, into_of}
use Rattle.cv_meaning.specs.Laws.{ErrorsStay, ReturnsStay}

-- what d more steps make of an end: nothing, where it is no stop, and a return leaves them too
abbrev pub With : ℕ → End → End → Type 0
With d (Stopped out) e = Unit {0}
With d (Error kind proc line out) e = e ≡ Error kind proc line out
With d (Returned v m left w out) e = e ≡ Returned v m (left + d) w out

abbrev Extends : ℕ → Runner → Runner → Type 0
Extends d r q = (f : Frame) (k : ℕ) (s : State) (n : ℕ) → With d (r f k s n) (q f k s (n + d))

resume_more : (d : ℕ) (P : Program) (r q : Runner) → Extends d r q → (f : Frame) (k : ℕ) (form : Form) (s : State) (e e' : End) → With d e e' →
    With d (resume P r f k form s e) (resume P q f k form s e')
resume_more d P r q x f k form s (Stopped out) e' h = tt
resume_more d P r q x f k form s (Error kind proc line out) e' h = rw h refl
resume_more d P r q x f k form s (Returned v m left w out) e' h =
    rw h (x f (suc k) (give P f (into_of form) v (record { vars = s.vars; memory = m; world = w; output = out })) left)

after_more : (d : ℕ) (P : Program) (r q : Runner) → Extends d r q → (f : Frame) (k : ℕ) (st : Stmt) (s : State) (n : ℕ) (t : Turn) →
    With d (after P r f k st s n t) (after P q f k st s (n + d) t)
after_more d P r q x f k st s n (Errs kind) = refl
after_more d P r q x f k st s n (Goes to next) = x f to next n
after_more d P r q x f k st s n (Enters g inner) = resume_more d P r q x f k st.form s (r g 0 inner n) (q g 0 inner (n + d)) (x g 0 inner n)
after_more d P r q x f k st s n (Leaves v next) = refl

stmt_more : (d : ℕ) (P : Program) (r q : Runner) → Extends d r q → (f : Frame) (k : ℕ) (s : State) (n : ℕ) (st : Option Stmt) →
    With d (at_stmt P r f k s n st) (at_stmt P q f k s (n + d) st)
stmt_more d P r q x f k s n None = tt
stmt_more d P r q x f k s n (Some st) = after_more d P r q x f k st s n (turn P f k st.form s)

step_more : (d : ℕ) (P : Program) (r q : Runner) → Extends d r q → Extends d (one_step P r) (one_step P q)
unfolding one_step
step_more d P r q x f k s zero = tt
step_more d P r q x f k s (suc n) =
    let e : suc n + d ≡ suc (n + d) = omega arith in
    let W : ℕ → Type 0 = λ j. With d (one_step P r f k s (suc n)) (one_step P q f k s j) in
    subst W (sym e) (stmt_more d P r q x f k s n (slice_get (stmts_of f.proc.body) k))

within_more : (d deep : ℕ) (P : Program) → Extends d (run_within deep P) (run_within (deep + d) P)
unfolding run_within
within_more d zero P f k s n = tt
within_more d (suc deep) P f k s n =
    let e : suc deep + d ≡ suc (deep + d) = omega arith in
    let W : ℕ → Type 0 = λ j. With d (run_within (suc deep) P f k s n) (run_within j P f k s (n + d)) in
    subst W (sym e) (step_more d P (run_within deep P) (run_within (deep + d) P) (within_more d deep P) f k s n)

run_more : (n d : ℕ) (P : Program) (f : Frame) (k : ℕ) (s : State) → With d (run n P f k s) (run (n + d) P f k s)
unfolding run
run_more n d P f k s = within_more d n P f k s n

pub errors_stay : ErrorsStay
errors_stay n d P f k s kind proc line out h =
    let W : End → Type 0 = λ e. With d e (run (n + d) P f k s) in subst W h (run_more n d P f k s)

pub returns_stay : ReturnsStay
returns_stay n d P f k s v m left w out h =
    let W : End → Type 0 = λ e. With d e (run (n + d) P f k s) in subst W h (run_more n d P f k s)
