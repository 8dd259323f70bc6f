-- An accepted straight-line program is clean.
use Rattle.std.proofs.Common.{◌≡◌, refl, sym, ap, subst, ◌∙◌, ℕ, zero, suc, ◌<◌, ◌⊎◌, inl, inr, Bool, true, false, List, [], ◌∷◌, ◌++◌, map, Option, Some, None, arith, ℤ, pos, negsuc}
use Rattle.std.proofs.lemmas.Int.{ints}
use Rattle.std.proofs.Math.Bool.{or-true}
use Rattle.std.specs.Prelude.{slice_get, codes}
use Rattle.std.specs.List.{list_all}
use Rattle.std.proofs.lemmas.Bool.{and_parts}
use Rattle.cv_num.specs.declared.rows.Row.{Row}
use Rattle.cv_core.specs.Names.{Name, stmts_of}
use Rattle.cv_core.specs.declared.program.Program.{Program}
use Rattle.cv_core.specs.declared.program.Proc.{Proc}
use Rattle.cv_core.specs.declared.program.ResultKind.TheVariants as answer
use Rattle.cv_core.specs.declared.program.Local.{Local}
use Rattle.cv_cert.specs.declared.certificate.CertCase.{CertCase}
use Rattle.cv_core.specs.declared.program.Form.{Form}
use Rattle.cv_core.specs.declared.program.Form.TheVariants as form
use Rattle.cv_core.specs.declared.program.Operand.TheVariants.{Number}
use Rattle.cv_core.specs.declared.program.AnyOperand.TheVariants as any
use Rattle.cv_core.specs.declared.program.Stmt.{Stmt}
use Rattle.cv_meaning.specs.State.{Frame, State, fresh_bytes}
use Rattle.cv_meaning.specs.Call.{Turn, Errs, Goes, Enters, Leaves, entered}
use Rattle.cv_meaning.specs.Clean.{Clean, IsError}
use Rattle.cv_meaning.specs.Run.{Runner, after, at_stmt, turn, one_step, run_within, run, run_main}
use Rattle.cv_meaning.proofs.Accesses.{same_name, get-last, length-fresh_bytes}
use Rattle.cv_text.specs.Narrow.{IsNarrow, IsMove, IsReturn, IsStraight, main_alone, no_contract, buffer_local, pointer_local}
use Rattle.cv_check.specs.Integer.{facts, place, has_address, is_address, entry}
use Rattle.cv_check.specs.Shown.{owed, place_owed, first_rows, later_rows, stmts_owed, entry_owed}
use Rattle.cv_check.specs.Accepted.{names_pointer, IsCaseValid, IsValid, IsAccepted, buffer_size, all_owed}
use Rattle.cv_check.proofs.Follows.{Each, each_front, each_back, AreTrueAt, Follows, all_follow}
use Rattle.cv_check.proofs.Named.{IsFree, are_free}
use Rattle.cv_check.proofs.Sound.{Holds, IsFrame, IsFineTurn, point, rows_at, Owes, fine_address, fine_shift, fine_store, fine_return}

-- ---- what is known of a statement by its number

straight_at : (b p : Name) (stmts : List Stmt) (k : ℕ) (st : Stmt) → IsStraight b p stmts → slice_get stmts k ≡ Some st → IsMove b p st.form ⊎ IsReturn st.form
straight_at b p [] k st h is = absurd h
straight_at b p (s ∷ []) zero st h is = let R : Stmt → Type 0 = λ x. IsReturn x.form in let e : s ≡ st = cc in inr (subst R e h)
straight_at b p (s ∷ []) (suc k) st h is = cc
straight_at b p (s ∷ t ∷ rest) zero st h is = let M : Stmt → Type 0 = λ x. IsMove b p x.form in let e : s ≡ st = cc in inl (subst M e h.0)
straight_at b p (s ∷ t ∷ rest) (suc k) st h is = straight_at b p (t ∷ rest) k st h.1 is

address_at : (stmts : List Stmt) (k : ℕ) (st : Stmt) → slice_get stmts k ≡ Some st → is_address st.form ≡ true → has_address stmts ≡ true
address_at [] k st is a = cc
address_at (s ∷ ss) zero st is a = let e : s ≡ st = cc in let f : is_address s.form ≡ true = ap (λ (x : Stmt). is_address x.form) e ∙ a in rw f refl
address_at (s ∷ ss) (suc k) st is a = rw (address_at ss k st is a, or-true) refl

owed_at : (size : ℕ) (target : Bool) (stmts : List Stmt) (rows : List (List Row)) (k : ℕ) (st : Stmt) →
    Each Follows (stmts_owed size target stmts rows) → slice_get stmts k ≡ Some st →
    Each Follows (place_owed (rows_at rows k) (rows_at rows (suc k)) (facts size target) (place size target st.form))
owed_at size target [] rows k st h is = cc
owed_at size target (s ∷ ss) rows zero st h is =
    let e : s ≡ st = cc in
    let O : Stmt → Type 0 = λ x. Each Follows (place_owed (first_rows rows) (first_rows (later_rows rows)) (facts size target) (place size target x.form)) in
    subst O e (each_front Follows (place_owed (first_rows rows) (first_rows (later_rows rows)) (facts size target) (place size target s.form)) (stmts_owed size target ss (later_rows rows)) h)
owed_at size target (s ∷ ss) rows (suc k) st h is =
    owed_at size target ss (later_rows rows) k st
    (each_back Follows (place_owed (first_rows rows) (first_rows (later_rows rows)) (facts size target) (place size target s.form)) (stmts_owed size target ss (later_rows rows)) h) is

free_at : (rows : List (List Row)) → list_all (list_all names_pointer) rows ≡ true → (k : ℕ) → Each IsFree (rows_at rows k)
free_at [] h zero = tt
free_at [] h (suc k) = free_at [] h k
free_at (rs ∷ rows) h zero = are_free rs (and_parts (list_all names_pointer rs) (list_all (list_all names_pointer) rows) h).0
free_at (rs ∷ rows) h (suc k) = free_at rows (and_parts (list_all names_pointer rs) (list_all (list_all names_pointer) rows) h).1 k

goals_true : (hyps : List Row) (at : ℕ → ℤ) → AreTrueAt at hyps → (rs : List Row) → Each Follows (map (owed hyps) rs) → AreTrueAt at rs
goals_true hyps at h [] k = tt
goals_true hyps at h (r ∷ rs) k = (k.0 at h, goals_true hyps at h rs k.1)

-- ---- runs

module _ (b p : Name) (size : ℕ) (lt : size < 2147483648) (target : Bool) (rows : List (List Row)) (f : Frame) (nar : IsFrame b p size lt target rows f)
    (P : Program) (free : (k : ℕ) → Each IsFree (rows_at rows k)) where
  fine_move : (k : ℕ) (s : State) (form : Form) → (is_address form ≡ true → target ≡ true) → Holds b p size lt target rows f k s → IsMove b p form →
      Owes b p size lt target rows f nar P free target k form → IsFineTurn b p size lt target rows f k (turn P f k form s)
  fine_move k s (form.Address x a) has h m kept =
      let A : Name → Type 0 = λ q. Owes b p size lt target rows f nar P free target k (form.Address q a) → IsFineTurn b p size lt target rows f k (turn P f k (form.Address q a) s) in
      let B : Name → Type 0 = λ q. Owes b p size lt target rows f nar P free target k (form.Address p q) → IsFineTurn b p size lt target rows f k (turn P f k (form.Address p q) s) in
      subst A (sym m.0) (subst B (sym m.1) (fine_address b p size lt target rows f nar P free k s (has refl) h)) kept
  fine_move k s (form.Shift x y (Number z)) has h m kept =
      let A : Name → Type 0 = λ q. Owes b p size lt target rows f nar P free target k (form.Shift q y (Number z)) → IsFineTurn b p size lt target rows f k (turn P f k (form.Shift q y (Number z)) s) in
      let B : Name → Type 0 = λ q. Owes b p size lt target rows f nar P free target k (form.Shift p q (Number z)) → IsFineTurn b p size lt target rows f k (turn P f k (form.Shift p q (Number z)) s) in
      subst A (sym m.0) (subst B (sym m.1) (fine_shift b p size lt target rows f nar P free k s z h h.at)) kept
  fine_move k s (form.Store x (Number z)) has h m kept =
      let A : Name → Type 0 = λ q. Owes b p size lt target rows f nar P free target k (form.Store q (Number z)) → IsFineTurn b p size lt target rows f k (turn P f k (form.Store q (Number z)) s) in
      subst A (sym m) (fine_store b p size lt target rows f nar P free k s z h h.at) kept
  fine_move k s form has h m kept = absurd m

  fine_stmt : (k : ℕ) (s : State) (form : Form) → (is_address form ≡ true → target ≡ true) → Holds b p size lt target rows f k s → IsMove b p form ⊎ IsReturn form →
      Owes b p size lt target rows f nar P free target k form → IsFineTurn b p size lt target rows f k (turn P f k form s)
  fine_stmt k s form has h (inl m) kept = fine_move k s form has h m kept
  fine_stmt k s (form.Return (Some (any.Operand (Number z)))) has h (inr r) kept = fine_return b p size lt target rows f nar P free k s z
  fine_stmt k s form has h (inr r) kept = absurd r

  module _ (straight : IsStraight b p (stmts_of f.proc.body)) (at_address : has_address (stmts_of f.proc.body) ≡ target)
      (owes : Each Follows (stmts_owed size target (stmts_of f.proc.body) rows)) where
    after_fine : (r : Runner) → ((k : ℕ) (s : State) (n : ℕ) → Holds b p size lt target rows f k s → IsError (r f k s n) → ⊥) →
        (k : ℕ) (st : Stmt) (s : State) (n : ℕ) (t : Turn) → IsFineTurn b p size lt target rows f k t → IsError (after P r f k st s n t) → ⊥
    after_fine r rest k st s n (Errs kind) h e = h
    after_fine r rest k st s n (Goes to next) h e = rest (suc k) next n h.1 (let E : ℕ → Type 0 = λ j. IsError (r f j next n) in subst E h.0 e)
    after_fine r rest k st s n (Enters g inner) h e = h
    after_fine r rest k st s n (Leaves v next) h e = e

    stmt_fine : (r : Runner) → ((k : ℕ) (s : State) (n : ℕ) → Holds b p size lt target rows f k s → IsError (r f k s n) → ⊥) →
        (k : ℕ) (s : State) (n : ℕ) → Holds b p size lt target rows f k s →
        (st : Option Stmt) → slice_get (stmts_of f.proc.body) k ≡ st → IsError (at_stmt P r f k s n st) → ⊥
    stmt_fine r rest k s n h None is e = e
    stmt_fine r rest k s n h (Some st) is e =
        after_fine r rest k st s n _
        (fine_stmt k s st.form (λ a. sym at_address ∙ address_at (stmts_of f.proc.body) k st is a) h (straight_at b p (stmts_of f.proc.body) k st straight is)
        (owed_at size target (stmts_of f.proc.body) rows k st owes is)) e

    -- no run of any number of steps errs
    pub never_errs : (deep : ℕ) (k : ℕ) (s : State) (n : ℕ) → Holds b p size lt target rows f k s → IsError (run_within deep P f k s n) → ⊥
    unfolding run_within one_step
    never_errs zero k s n h e = e
    never_errs (suc deep) k s zero h e = e
    never_errs (suc deep) k s (suc n) h e = stmt_fine (run_within deep P) (never_errs deep) k s n h (slice_get (stmts_of f.proc.body) k) refl e

-- ---- from the start of main

abbrev main_proc : ℕ → List Local → List Stmt → Proc
main_proc line locals stmts =
    record { line = line; answer = answer.Int; name = codes "main"; formals = []; contract = no_contract; body = Some (record { locals = locals; stmts = stmts }) }

entry_true : (size : ℕ) (target : Bool) → size < 2147483648 → AreTrueAt (point (negsuc 0) (pos 0) (pos 0)) (entry ++ facts size target)
entry_true size true lt = (omega (arith, ints), (omega (arith, ints), (omega (arith, ints), (omega (arith, ints), (omega (arith, ints), (omega (arith, ints), (omega (arith, ints), (omega (arith, ints), (omega (arith, ints), (omega (arith, ints), tt))))))))))
entry_true size false lt = (omega (arith, ints), (omega (arith, ints), (omega (arith, ints), (omega (arith, ints), (omega (arith, ints), (omega (arith, ints), (omega (arith, ints), (omega (arith, ints), (omega (arith, ints), (omega (arith, ints), tt))))))))))

module _ (line : ℕ) (b p : Name) (size : ℕ) (lt : size < 2147483648) (stmts : List Stmt) (straight : IsStraight b p stmts) (c : CertCase)
    (valid : IsCaseValid size stmts c) where
  abbrev target : Bool
  target = has_address stmts

  shown_all : Each Follows (all_owed size stmts c.rows)
  shown_all = all_follow (all_owed size stmts c.rows) c.steps [] valid.shown

  first_true : AreTrueAt (point (negsuc 0) (pos 0) (pos 0)) (rows_at c.rows 0)
  first_true =
      goals_true (entry ++ facts size target) (point (negsuc 0) (pos 0) (pos 0)) (entry_true size target lt) (first_rows c.rows)
      (each_front Follows (entry_owed size target c.rows) (stmts_owed size target stmts c.rows) shown_all)

  rest_owed : Each Follows (stmts_owed size target stmts c.rows)
  rest_owed = each_back Follows (entry_owed size target c.rows) (stmts_owed size target stmts c.rows) shown_all

  pub clean_buffer_first : Clean (main_alone line (buffer_local b size ∷ pointer_local p ∷ []) stmts)
  unfolding run_main run
  clean_buffer_first = record {
    never_errs = λ n args m w f is start in_world meets e.
        let P : Program = main_alone line (buffer_local b size ∷ pointer_local p ∷ []) stmts in
        let g : Frame = entered P 0 (main_proc line (buffer_local b size ∷ pointer_local p ∷ []) stmts) args m in
        let nar : IsFrame b p size lt target c.rows g = record { has_buffer = rw (same_name b) refl; gives = refl; literals = omega arith } in
        never_errs b p size lt target c.rows g nar P (free_at c.rows valid.variables) straight refl rest_owed n 0 _ n
        (record { site = 1; bytes = fresh_bytes size w; is = get-last m _; long = length-fresh_bytes size w; c = negsuc 0; o = 0; le = omega arith; at = inl refl; true_rows = first_true }) e;
  }

  pub clean_pointer_first : Clean (main_alone line (pointer_local p ∷ buffer_local b size ∷ []) stmts)
  unfolding run_main run
  clean_pointer_first = record {
    never_errs = λ n args m w f is start in_world meets e.
        let P : Program = main_alone line (pointer_local p ∷ buffer_local b size ∷ []) stmts in
        let g : Frame = entered P 0 (main_proc line (pointer_local p ∷ buffer_local b size ∷ []) stmts) args m in
        let nar : IsFrame b p size lt target c.rows g = record { has_buffer = rw (same_name b) refl; gives = refl; literals = omega arith } in
        never_errs b p size lt target c.rows g nar P (free_at c.rows valid.variables) straight refl rest_owed n 0 _ n
        (record { site = 1; bytes = fresh_bytes size w; is = get-last m _; long = length-fresh_bytes size w; c = negsuc 0; o = 0; le = omega arith; at = inl refl; true_rows = first_true }) e;
  }

-- an accepted straight-line program is clean
pub accepted_clean : (P : Program) → buffer_size P < 2147483648 → IsNarrow P → (text : List ℕ) → IsAccepted P text → Clean P
accepted_clean P lt narrow text a = by_shape narrow.parts
  where
    by_shape : (P ≡ main_alone narrow.line (buffer_local narrow.buffer narrow.size ∷ pointer_local narrow.pointer ∷ []) narrow.stmts)
        ⊎ (P ≡ main_alone narrow.line (pointer_local narrow.pointer ∷ buffer_local narrow.buffer narrow.size ∷ []) narrow.stmts) → Clean P
    by_shape (inl e) =
        let F : Program → Type 0 = λ Q. buffer_size Q < 2147483648 → IsValid Q a.certificate → Clean Q in
        subst F (sym e) (λ lt v. clean_buffer_first narrow.line narrow.buffer narrow.pointer narrow.size lt narrow.stmts narrow.straight v.valid.case v.valid.valid) lt a.valid
    by_shape (inr e) =
        let F : Program → Type 0 = λ Q. buffer_size Q < 2147483648 → IsValid Q a.certificate → Clean Q in
        subst F (sym e) (λ lt v. clean_pointer_first narrow.line narrow.buffer narrow.pointer narrow.size lt narrow.stmts narrow.straight v.valid.case v.valid.valid) lt a.valid
