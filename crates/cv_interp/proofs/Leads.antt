-- One step of a machine, by what the step of the meaning leads to.
use Rattle.std.proofs.Common.{◌≡◌, refl, sym, ap, ◌∙◌, ℕ, zero, suc, ◌+◌, List, [], ◌∷◌, ◌++◌, Option, Some, None, arith}
use Rattle.std.specs.Prelude.{slice_get}
use Rattle.cv_core.specs.Names.{stmts_of}
use Rattle.cv_core.specs.declared.faults.ErrKind.{ErrKind}
use Rattle.cv_core.specs.declared.program.Program.{Program}
use Rattle.cv_core.specs.declared.program.Stmt.{Stmt}
use Rattle.cv_meaning.specs.declared.ends.RunEnd.TheVariants as how
use Rattle.cv_meaning.specs.declared.memory.Value.{Value}
use Rattle.cv_meaning.specs.State.{Frame, State}
use Rattle.cv_meaning.specs.Call.{Turn, Errs, Goes, Enters, Leaves}
use Rattle.cv_meaning.specs.Run.{End, Stopped, Error, Returned, after, at_stmt, one_step, resume, run, turn}
use Rattle.cv_meaning.proofs.Runs.{run_is}
use Rattle.cv_interp.specs.declared.machine.Ended.{Ended}
use Rattle.cv_interp.specs.declared.machine.Ended.TheVariants as ended
use Rattle.cv_interp.specs.Level.{Level, Stack}
use Rattle.cv_interp.specs.Machine.{Outcome, answer_of, end, end_from, form_held, form_of, frame_of, resumed, runs, seen, state_of, waiting_state}

-- ---- runs

run_one : (P : Program) (f : Frame) (k : ℕ) (s : State) (n : ℕ) → run (suc n) P f k s ≡ at_stmt P (runs P) f k s n (slice_get (stmts_of f.proc.body) k)
unfolding one_step
run_one P f k s n = run_is P f k s (suc n)

run_turn : (P : Program) (f : Frame) (k : ℕ) (s : State) (n : ℕ) (st : Stmt) (t : Turn) → slice_get (stmts_of f.proc.body) k ≡ Some st → turn P f k st.form s ≡ t →
    run (suc n) P f k s ≡ after P (runs P) f k st s n t
run_turn P f k s n st t at is = run_one P f k s n ∙ ap (at_stmt P (runs P) f k s n) at ∙ ap (after P (runs P) f k st s n) is

run_none : (P : Program) (f : Frame) (k : ℕ) (s : State) (n : ℕ) → slice_get (stmts_of f.proc.body) k ≡ None → run (suc n) P f k s ≡ Stopped s.output
run_none P f k s n at = run_one P f k s n ∙ ap (at_stmt P (runs P) f k s n) at

run_zero : (P : Program) (f : Frame) (k : ℕ) (s : State) → run 0 P f k s ≡ Stopped s.output
unfolding one_step
run_zero P f k s = run_is P f k s 0

-- ---- the levels below

pub resumed_stopped : (P : Program) (ls : List Level) (out : List ℕ) → resumed P ls (Stopped out) ≡ Stopped out
resumed_stopped P [] out = refl
resumed_stopped P (l ∷ ls) out = ap (resume P (runs P) (frame_of l) l.at (form_of l) (waiting_state l)) (resumed_stopped P ls out)

pub resumed_error : (P : Program) (ls : List Level) (kind : ErrKind) (proc line : ℕ) (out : List ℕ) → resumed P ls (Error kind proc line out) ≡ Error kind proc line out
resumed_error P [] kind proc line out = refl
resumed_error P (l ∷ ls) kind proc line out = ap (resume P (runs P) (frame_of l) l.at (form_of l) (waiting_state l)) (resumed_error P ls kind proc line out)

pub resumed_append : (P : Program) (ls : List Level) (l : Level) (e : End) →
    resumed P (ls ++ l ∷ []) e ≡ resumed P ls (resume P (runs P) (frame_of l) l.at (form_of l) (waiting_state l) e)
resumed_append P [] l e = refl
resumed_append P (k ∷ ls) l e = ap (resume P (runs P) (frame_of k) k.at (form_of k) (waiting_state k)) (resumed_append P ls l e)

-- ---- ends

pub end_open : (m : Stack) (n : ℕ) → m.ended ≡ None → end m n ≡ seen (resumed m.program m.waiting (run n m.program (frame_of m.running) m.running.at (state_of m)))
unfolding end
end_open m n h = ap (λ (o : Option Ended). end_from m o n) h

pub end_error : (m : Stack) (n : ℕ) (kind : ErrKind) (proc line : ℕ) → m.ended ≡ Some (ended.Error kind proc line) → end m n ≡ record { how = how.Error kind proc line; output = m.output }
unfolding end
end_error m n kind proc line h = ap (λ (o : Option Ended). end_from m o n) h

pub end_returned : (m : Stack) (n : ℕ) (z : _) → m.ended ≡ Some (ended.Returned z) → end m n ≡ record { how = how.Returned z; output = m.output }
unfolding end
end_returned m n z h = ap (λ (o : Option Ended). end_from m o n) h

pub end_zero : (m : Stack) → m.ended ≡ None → end m 0 ≡ record { how = how.Stopped; output = m.output }
end_zero m h =
    end_open m 0 h
    ∙ ap (λ e. seen (resumed m.program m.waiting e)) (run_zero m.program (frame_of m.running) m.running.at (state_of m))
    ∙ ap seen (resumed_stopped m.program m.waiting m.output)

-- a machine that has ended has the same end for every number of steps
pub end_same : (m : Stack) (e : Ended) (n k : ℕ) → m.ended ≡ Some e → end m n ≡ end m k
unfolding end
end_same m (ended.Error kind proc line) n k h = end_error m n kind proc line h ∙ sym (end_error m k kind proc line h)
end_same m (ended.Returned z) n k h = end_returned m n z h ∙ sym (end_returned m k z h)

plus_one : (n : ℕ) → 1 + n ≡ suc n
plus_one n = omega arith

-- the run of the level that runs, one step on
pub end_by : (m : Stack) (n : ℕ) (st : Stmt) (t : Turn) → m.ended ≡ None → slice_get (stmts_of m.running.proc.body) m.running.at ≡ Some st →
    turn m.program (frame_of m.running) m.running.at st.form (state_of m) ≡ t →
    end m (1 + n) ≡ seen (resumed m.program m.waiting (after m.program (runs m.program) (frame_of m.running) m.running.at st (state_of m) n t))
end_by m n st t on at is =
    ap (end m) (plus_one n) ∙ end_open m (suc n) on
    ∙ ap (λ e. seen (resumed m.program m.waiting e)) (run_turn m.program (frame_of m.running) m.running.at (state_of m) n st t at is)

-- ---- the machine m after a step, by the kind of the turn

-- it goes on: t is m at the statement j, in the state there
pub goes : (m t : Stack) (st : Stmt) (j : ℕ) (s : State) → m.ended ≡ None → slice_get (stmts_of m.running.proc.body) m.running.at ≡ Some st →
    turn m.program (frame_of m.running) m.running.at st.form (state_of m) ≡ Goes j s →
    t.ended ≡ None → t.program ≡ m.program → t.waiting ≡ m.waiting → frame_of t.running ≡ frame_of m.running → t.running.at ≡ j → state_of t ≡ s →
    (n : ℕ) → end t n ≡ end m (1 + n)
goes m t st j s on at is still same below frame there state n =
    end_open t n still
    ∙ ap (λ P. seen (resumed P t.waiting (run n P (frame_of t.running) t.running.at (state_of t)))) same
    ∙ ap (λ ws. seen (resumed m.program ws (run n m.program (frame_of t.running) t.running.at (state_of t)))) below
    ∙ ap (λ f. seen (resumed m.program m.waiting (run n m.program f t.running.at (state_of t)))) frame
    ∙ ap (λ k. seen (resumed m.program m.waiting (run n m.program (frame_of m.running) k (state_of t)))) there
    ∙ ap (λ s. seen (resumed m.program m.waiting (run n m.program (frame_of m.running) j s))) state
    ∙ sym (end_by m n st (Goes j s) on at is)

-- it errs: t is m with that end
pub errs : (m t : Stack) (st : Stmt) (kind : ErrKind) → m.ended ≡ None → slice_get (stmts_of m.running.proc.body) m.running.at ≡ Some st →
    turn m.program (frame_of m.running) m.running.at st.form (state_of m) ≡ Errs kind →
    t.ended ≡ Some (ended.Error kind m.running.number st.line) → t.output ≡ m.output → (n : ℕ) → end t n ≡ end m (1 + n)
errs m t st kind on at is done out n =
    end_error t n kind m.running.number st.line done
    ∙ ap (λ (o : List ℕ). record { how = how.Error kind m.running.number st.line; output = o }) out
    ∙ sym (end_by m n st (Errs kind) on at is ∙ ap seen (resumed_error m.program m.waiting kind m.running.number st.line m.output))

pub errs_now : (m : Stack) (st : Stmt) (kind : ErrKind) → m.ended ≡ None → slice_get (stmts_of m.running.proc.body) m.running.at ≡ Some st →
    turn m.program (frame_of m.running) m.running.at st.form (state_of m) ≡ Errs kind → (end m 1).how ≡ how.Error kind m.running.number st.line
errs_now m st kind on at is =
    ap (λ (o : Outcome). o.how) (end_by m 0 st (Errs kind) on at is ∙ ap seen (resumed_error m.program m.waiting kind m.running.number st.line m.output))

-- a procedure is entered: t runs it, and the level that ran waits
pub enters : (m t : Stack) (st : Stmt) (g : Frame) (s : State) → m.ended ≡ None → slice_get (stmts_of m.running.proc.body) m.running.at ≡ Some st →
    turn m.program (frame_of m.running) m.running.at st.form (state_of m) ≡ Enters g s →
    t.ended ≡ None → t.program ≡ m.program → t.waiting ≡ m.waiting ++ m.running ∷ [] → frame_of t.running ≡ g → t.running.at ≡ 0 → state_of t ≡ s →
    (n : ℕ) → end t n ≡ end m (1 + n)
enters m t st g s on at is still same below frame there state n =
    end_open t n still
    ∙ ap (λ P. seen (resumed P t.waiting (run n P (frame_of t.running) t.running.at (state_of t)))) same
    ∙ ap (λ ws. seen (resumed m.program ws (run n m.program (frame_of t.running) t.running.at (state_of t)))) below
    ∙ ap (λ f. seen (resumed m.program (m.waiting ++ m.running ∷ []) (run n m.program f t.running.at (state_of t)))) frame
    ∙ ap (λ k. seen (resumed m.program (m.waiting ++ m.running ∷ []) (run n m.program g k (state_of t)))) there
    ∙ ap (λ s. seen (resumed m.program (m.waiting ++ m.running ∷ []) (run n m.program g 0 s))) state
    ∙ ap seen (resumed_append m.program m.waiting m.running (run n m.program g 0 s))
    ∙ ap (λ e. seen (resumed m.program m.waiting e)) (same_resume (run n m.program g 0 s))
    ∙ sym (end_by m n st (Enters g s) on at is)
  where
    form_is : form_of m.running ≡ st.form
    form_is = ap form_held at

    same_resume : (e : End) → resume m.program (runs m.program) (frame_of m.running) m.running.at (form_of m.running) (waiting_state m.running) e
        ≡ resume m.program (runs m.program) (frame_of m.running) m.running.at st.form (state_of m) e
    same_resume (Stopped out) = refl
    same_resume (Error kind proc line out) = refl
    same_resume (Returned v m' left w out) = ap (λ form. resume m.program (runs m.program) (frame_of m.running) m.running.at form (state_of m) (Returned v m' left w out)) form_is

-- it returns to the level l: t runs that one, behind its call
pub returns : (m t : Stack) (st : Stmt) (v : Option Value) (s : State) (ls : List Level) (l : Level) → m.ended ≡ None → slice_get (stmts_of m.running.proc.body) m.running.at ≡ Some st →
    turn m.program (frame_of m.running) m.running.at st.form (state_of m) ≡ Leaves v s → m.waiting ≡ ls ++ l ∷ [] →
    t.ended ≡ None → t.program ≡ m.program → t.waiting ≡ ls → frame_of t.running ≡ frame_of l → t.running.at ≡ l.at + 1 →
    ((n : ℕ) → run n m.program (frame_of l) (suc l.at) (state_of t) ≡ resume m.program (runs m.program) (frame_of l) l.at (form_of l) (waiting_state l) (Returned v s.memory n s.world s.output)) →
    (n : ℕ) → end t n ≡ end m (1 + n)
returns m t st v s ls l on at is stack still same below frame there state n =
    end_open t n still
    ∙ ap (λ P. seen (resumed P t.waiting (run n P (frame_of t.running) t.running.at (state_of t)))) same
    ∙ ap (λ ws. seen (resumed m.program ws (run n m.program (frame_of t.running) t.running.at (state_of t)))) below
    ∙ ap (λ f. seen (resumed m.program ls (run n m.program f t.running.at (state_of t)))) frame
    ∙ ap (λ k. seen (resumed m.program ls (run n m.program (frame_of l) k (state_of t)))) (there ∙ next l.at)
    ∙ ap (λ e. seen (resumed m.program ls e)) (state n)
    ∙ sym (ap seen (resumed_append m.program ls l (Returned v s.memory n s.world s.output)))
    ∙ sym (end_by m n st (Leaves v s) on at is ∙ ap (λ ws. seen (resumed m.program ws (Returned v s.memory n s.world s.output))) stack)
  where
    next : (k : ℕ) → k + 1 ≡ suc k
    next k = omega arith

-- main returns: t is m with that end
pub ends : (m t : Stack) (st : Stmt) (v : Option Value) (s : State) → m.ended ≡ None → slice_get (stmts_of m.running.proc.body) m.running.at ≡ Some st →
    turn m.program (frame_of m.running) m.running.at st.form (state_of m) ≡ Leaves v s → m.waiting ≡ [] →
    t.ended ≡ Some (ended.Returned (answer_of v)) → t.output ≡ s.output → (n : ℕ) → end t n ≡ end m (1 + n)
ends m t st v s on at is bottom done out n =
    end_returned t n (answer_of v) done
    ∙ ap (λ (o : List ℕ). record { how = how.Returned (answer_of v); output = o }) out
    ∙ sym (end_by m n st (Leaves v s) on at is ∙ ap (λ ws. seen (resumed m.program ws (Returned v s.memory n s.world s.output))) bottom)

pub ends_now : (m : Stack) (st : Stmt) (v : Option Value) (s : State) → m.ended ≡ None → slice_get (stmts_of m.running.proc.body) m.running.at ≡ Some st →
    turn m.program (frame_of m.running) m.running.at st.form (state_of m) ≡ Leaves v s → m.waiting ≡ [] → (end m 1).how ≡ how.Returned (answer_of v)
ends_now m st v s on at is bottom =
    ap (λ (o : Outcome). o.how) (end_by m 0 st (Leaves v s) on at is ∙ ap (λ ws. seen (resumed m.program ws (Returned v s.memory 0 s.world s.output))) bottom)

-- behind the last statement it stays
pub stays : (m : Stack) → m.ended ≡ None → slice_get (stmts_of m.running.proc.body) m.running.at ≡ None → (n : ℕ) → end m n ≡ end m (1 + n)
stays m on at n = stopped n ∙ sym (ap (end m) (plus_one n) ∙ stopped (suc n))
  where
    run_stopped : (k : ℕ) → run k m.program (frame_of m.running) m.running.at (state_of m) ≡ Stopped m.output
    run_stopped zero = run_zero m.program (frame_of m.running) m.running.at (state_of m)
    run_stopped (suc k) = run_none m.program (frame_of m.running) m.running.at (state_of m) k at

    stopped : (k : ℕ) → end m k ≡ record { how = how.Stopped; output = m.output }
    stopped k = end_open m k on ∙ ap (λ e. seen (resumed m.program m.waiting e)) (run_stopped k) ∙ ap seen (resumed_stopped m.program m.waiting m.output)

-- where a machine goes on, the step answers so
pub on_now : (m t : Stack) → t.ended ≡ None → ((n : ℕ) → end t n ≡ end m (1 + n)) → (end m 1).how ≡ how.Stopped
on_now m t still h = ap (λ (o : Outcome). o.how) (sym (h 0) ∙ end_zero t still)
