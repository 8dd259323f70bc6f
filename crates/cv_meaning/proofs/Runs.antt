-- The run of n steps is one step and then runs of fewer steps; a larger bound of the recursion changes nothing.
use Rattle.std.proofs.Common.{◌≡◌, refl, sym, ap, ◌∙◌, ℕ, zero, suc, ◌≤◌, List, [], Option, Some, None, arith}
use Rattle.cv_core.specs.declared.program.Program.{Program}
use Rattle.cv_core.specs.declared.program.Form.{Form}
use Rattle.cv_core.specs.declared.program.Stmt.{Stmt}
use Rattle.std.specs.Prelude.{slice_get}
use Rattle.cv_core.specs.Names.{stmts_of}
use Rattle.cv_meaning.specs.State.{Frame, State}
use Rattle.cv_meaning.specs.Call.{Turn, Errs, Goes, Enters, Leaves, give}
use Rattle.cv_meaning.specs.Run.{End, Stopped, Error, Returned, Runner, resume, after, at_stmt, turn, one_step, run_within, run, into_of}

-- a return leaves at most n steps
abbrev pub LeavesAtMost : ℕ → End → Type 0
LeavesAtMost n (Returned answer m left w out) = left ≤ n
LeavesAtMost n (Stopped out) = Unit {0}
LeavesAtMost n (Error kind proc line out) = Unit {0}

abbrev pub IsThrifty : Runner → Type 0
IsThrifty r = (f : Frame) (k : ℕ) (s : State) (n : ℕ) → LeavesAtMost n (r f k s n)

more : (n : ℕ) (e : End) → LeavesAtMost n e → LeavesAtMost (suc n) e
more n (Returned answer m left w out) h = omega arith
more n (Stopped out) h = tt
more n (Error kind proc line out) h = tt

up_to : (l n : ℕ) (e : End) → l ≤ n → LeavesAtMost l e → LeavesAtMost n e
up_to l n (Returned answer m left w out) le h = omega arith
up_to l n (Stopped out) le h = tt
up_to l n (Error kind proc line out) le h = tt

resume_thrifty : (P : Program) (r : Runner) → IsThrifty r → (f : Frame) (k : ℕ) (form : Form) (s : State) (n : ℕ) (e : End) → LeavesAtMost n e →
    LeavesAtMost n (resume P r f k form s e)
resume_thrifty P r t f k form s n (Returned answer m left w out) h = up_to left n _ h (t f _ _ left)
resume_thrifty P r t f k form s n (Stopped out) h = tt
resume_thrifty P r t f k form s n (Error kind proc line out) h = tt

after_thrifty : (P : Program) (r : Runner) → IsThrifty r → (f : Frame) (k : ℕ) (st : Stmt) (s : State) (n : ℕ) (turned : Turn) →
    LeavesAtMost n (after P r f k st s n turned)
after_thrifty P r t f k st s n (Errs kind) = tt
after_thrifty P r t f k st s n (Goes to next) = t f to next n
after_thrifty P r t f k st s n (Enters g inner) = resume_thrifty P r t f k st.form s n _ (t g 0 inner n)
after_thrifty P r t f k st s n (Leaves answer next) = omega arith

stmt_thrifty : (P : Program) (r : Runner) → IsThrifty r → (f : Frame) (k : ℕ) (s : State) (n : ℕ) (st : Option Stmt) →
    LeavesAtMost n (at_stmt P r f k s n st)
stmt_thrifty P r t f k s n None = tt
stmt_thrifty P r t f k s n (Some st) = after_thrifty P r t f k st s n (turn P f k st.form s)

step_thrifty : (P : Program) (r : Runner) → IsThrifty r → IsThrifty (one_step P r)
unfolding one_step
step_thrifty P r t f k s zero = tt
step_thrifty P r t f k s (suc n) = more n _ (stmt_thrifty P r t f k s n (slice_get (stmts_of f.proc.body) k))

pub thrifty : (deep : ℕ) (P : Program) → IsThrifty (run_within deep P)
unfolding run_within
thrifty zero P f k s n = tt
thrifty (suc deep) P f k s n = step_thrifty P (run_within deep P) (thrifty deep P) f k s n

-- the same runs of up to n steps
abbrev pub Agree : ℕ → Runner → Runner → Type 0
Agree n r q = (f : Frame) (k : ℕ) (s : State) (m : ℕ) → m ≤ n → r f k s m ≡ q f k s m

resume_agree : (n : ℕ) (P : Program) (r q : Runner) → Agree n r q → (f : Frame) (k : ℕ) (form : Form) (s : State) (e : End) → LeavesAtMost n e →
    resume P r f k form s e ≡ resume P q f k form s e
resume_agree n P r q a f k form s (Returned answer m left w out) h = a f _ _ left h
resume_agree n P r q a f k form s (Stopped out) h = refl
resume_agree n P r q a f k form s (Error kind proc line out) h = refl

after_agree : (n : ℕ) (P : Program) (r q : Runner) → IsThrifty r → Agree n r q → (f : Frame) (k : ℕ) (st : Stmt) (s : State) (m : ℕ) → m ≤ n → (t : Turn) →
    after P r f k st s m t ≡ after P q f k st s m t
after_agree n P r q b a f k st s m h (Errs kind) = refl
after_agree n P r q b a f k st s m h (Goes to next) = a f to next m h
after_agree n P r q b a f k st s m h (Enters g inner) =
    resume_agree n P r q a f k st.form s (r g 0 inner m) (up_to m n _ h (b g 0 inner m)) ∙ ap (resume P q f k st.form s) (a g 0 inner m h)
after_agree n P r q b a f k st s m h (Leaves answer next) = refl

stmt_agree : (n : ℕ) (P : Program) (r q : Runner) → IsThrifty r → Agree n r q → (f : Frame) (k : ℕ) (s : State) (m : ℕ) → m ≤ n → (st : Option Stmt) →
    at_stmt P r f k s m st ≡ at_stmt P q f k s m st
stmt_agree n P r q b a f k s m h None = refl
stmt_agree n P r q b a f k s m h (Some st) = after_agree n P r q b a f k st s m h (turn P f k st.form s)

step_agree : (n : ℕ) (P : Program) (r q : Runner) → IsThrifty r → Agree n r q → Agree (suc n) (one_step P r) (one_step P q)
unfolding one_step
step_agree n P r q b a f k s zero h = refl
step_agree n P r q b a f k s (suc m) h =
    let le : m ≤ n = omega arith in stmt_agree n P r q b a f k s m le (slice_get (stmts_of f.proc.body) k)

step_none : (P : Program) (r q : Runner) → Agree 0 (one_step P r) (one_step P q)
unfolding one_step
step_none P r q f k s zero h = refl
step_none P r q f k s (suc m) h = absurd (omega arith)

nothing_left : (P : Program) (r : Runner) (f : Frame) (k : ℕ) (s : State) (m : ℕ) → m ≤ 0 → Stopped s.output ≡ one_step P r f k s m
unfolding one_step
nothing_left P r f k s zero h = refl
nothing_left P r f k s (suc m) h = absurd (omega arith)

-- the bound is no part of the answer where it is at least the number of steps
pub enough : (n d e : ℕ) (P : Program) → n ≤ d → n ≤ e → Agree n (run_within d P) (run_within e P)
unfolding run_within
enough zero zero zero P h l f k s m le = refl
enough zero (suc d) zero P h l f k s m le = sym (nothing_left P (run_within d P) f k s m le)
enough zero zero (suc e) P h l f k s m le = nothing_left P (run_within e P) f k s m le
enough zero (suc d) (suc e) P h l f k s m le = step_none P (run_within d P) (run_within e P) f k s m le
enough (suc n) zero e P h l f k s m le = absurd (omega arith)
enough (suc n) (suc d) zero P h l f k s m le = absurd (omega arith)
enough (suc n) (suc d) (suc e) P h l f k s m le =
    let a : n ≤ d = omega arith in let b : n ≤ e = omega arith in
    step_agree n P (run_within d P) (run_within e P) (thrifty d P) (enough n d e P a b) f k s m le

abbrev pub run_of : Program → Runner
run_of P f k s n = run n P f k s

within_is : (P : Program) (n : ℕ) → Agree n (run_within n P) (run_of P)
unfolding run
within_is P n f k s m le = let same : m ≤ m = omega arith in enough m n m P le same f k s m same

-- one step, and then runs of fewer steps
pub run_is : (P : Program) (f : Frame) (k : ℕ) (s : State) (n : ℕ) → run n P f k s ≡ one_step P (run_of P) f k s n
unfolding run run_within one_step
run_is P f k s zero = refl
run_is P f k s (suc n) =
    let same : suc n ≤ suc n = omega arith in step_agree n P (run_within n P) (run_of P) (thrifty n P) (within_is P n) f k s (suc n) same
