-- The induction over all runs: what each single turn keeps, every run keeps.
use Rattle.std.proofs.Common.{◌≡◌, refl, sym, ap, ℕ, zero, suc, List, [], ◌∷◌, Option, Some, None}
use Rattle.std.specs.Prelude.{slice_get}
use Rattle.cv_core.specs.Names.{stmts_of}
use Rattle.cv_core.specs.declared.program.Program.{Program}
use Rattle.cv_core.specs.declared.program.Form.{Form}
use Rattle.cv_core.specs.declared.program.Stmt.{Stmt}
use Rattle.cv_meaning.specs.declared.memory.Value.{Value}
use Rattle.cv_meaning.specs.State.{Frame, State}
use Rattle.cv_meaning.specs.Call.{Turn, Errs, Goes, Enters, Leaves, give}
use Rattle.cv_meaning.specs.Run.{End, Stopped, Error, Returned, Runner, resume, after, at_stmt, turn, one_step, run_within, run, into_of}
use Rattle.cv_meaning.specs.Checked.{Checked}

-- the caller's state after a call that left this one
abbrev pub back : Program → Frame → Form → State → Option Value → State → State
back P f form s answer left = give P f (into_of form) answer (record { vars = s.vars; memory = left.memory; world = left.world; output = left.output })

module _ (P : Program) (Here : Frame → ℕ → State → Type 0) (Left : Frame → Option Value → State → Type 0) where
  -- what a turn has to keep
  abbrev pub IsKept : Frame → ℕ → Stmt → State → Turn → Type 0
  IsKept f k st s (Errs kind) = ⊥
  IsKept f k st s (Goes to next) = Here f to next
  IsKept f k st s (Enters g inner) =
      Here g 0 inner × ((answer : Option Value) (left : State) → Left g answer left → Here f (suc k) (back P f st.form s answer left))
  IsKept f k st s (Leaves answer next) = Left f answer next

  -- what a run has kept: it is no error, and what it returns with is as said
  abbrev pub IsGood : Frame → End → Type 0
  IsGood f (Stopped out) = Unit {0}
  IsGood f (Error kind proc line out) = ⊥
  IsGood f (Returned answer m left w out) = (vars : _) → Left f answer (record { vars = vars; memory = m; world = w; output = out })

  module _ (each : (f : Frame) (k : ℕ) (s : State) (st : Stmt) → Here f k s → slice_get (stmts_of f.proc.body) k ≡ Some st → IsKept f k st s (turn P f k st.form s))
      (blind : (f : Frame) (answer : Option Value) (s : State) (vars : _) → Left f answer s → Left f answer (record s { vars = vars })) where
    resumed : (r : Runner) → ((f : Frame) (k : ℕ) (s : State) (n : ℕ) → Here f k s → IsGood f (r f k s n)) →
        (f g : Frame) (k : ℕ) (st : Stmt) (s : State) →
        ((answer : Option Value) (left : State) → Left g answer left → Here f (suc k) (back P f st.form s answer left)) →
        (e : End) → IsGood g e → IsGood f (resume P r f k st.form s e)
    resumed r rest f g k st s then (Stopped out) h = tt
    resumed r rest f g k st s then (Error kind proc line out) h = h
    resumed r rest f g k st s then (Returned answer m left w out) h =
        rest f (suc k) _ left (then answer (record { vars = s.vars; memory = m; world = w; output = out }) (h s.vars))

    taken : (r : Runner) → ((f : Frame) (k : ℕ) (s : State) (n : ℕ) → Here f k s → IsGood f (r f k s n)) →
        (f : Frame) (k : ℕ) (st : Stmt) (s : State) (n : ℕ) (t : Turn) → IsKept f k st s t → IsGood f (after P r f k st s n t)
    taken r rest f k st s n (Errs kind) h = h
    taken r rest f k st s n (Goes to next) h = rest f to next n h
    taken r rest f k st s n (Enters g inner) h = resumed r rest f g k st s h.1 (r g 0 inner n) (rest g 0 inner n h.0)
    taken r rest f k st s n (Leaves answer next) h = λ vars. blind f answer next vars h

    at_good : (r : Runner) → ((f : Frame) (k : ℕ) (s : State) (n : ℕ) → Here f k s → IsGood f (r f k s n)) →
        (f : Frame) (k : ℕ) (s : State) (n : ℕ) → Here f k s → (st : Option Stmt) → slice_get (stmts_of f.proc.body) k ≡ st → IsGood f (at_stmt P r f k s n st)
    at_good r rest f k s n h None is = tt
    at_good r rest f k s n h (Some st) is = taken r rest f k st s n _ (each f k s st h is)

    pub all_good : (deep : ℕ) (f : Frame) (k : ℕ) (s : State) (n : ℕ) → Here f k s → IsGood f (run_within deep P f k s n)
    unfolding run_within one_step
    all_good zero f k s n h = tt
    all_good (suc deep) f k s zero h = tt
    all_good (suc deep) f k s (suc n) h = at_good (run_within deep P) (all_good deep) f k s n h _ refl
