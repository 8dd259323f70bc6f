-- A step of a machine that is no call and no return.
use Rattle.std.proofs.Common.{◌≡◌, refl, sym, ap, subst, ◌∙◌, ℕ, ◌+◌, ◌<◌, ◌≤◌, ◌^◌, true, List, length, Option, Some, None, Ok, Err, arith}
use Rattle.std.specs.Prelude.{All, slice_get, slice_index_or}
use Rattle.cv_core.specs.Limits.{first_limit}
use Rattle.cv_core.specs.Names.{locals_of, stmts_of}
use Rattle.cv_core.specs.declared.faults.ErrKind.{ErrKind}
use Rattle.cv_core.specs.declared.program.Program.{Program}
use Rattle.cv_core.specs.declared.program.Proc.{Proc}
use Rattle.cv_core.specs.declared.program.Stmt.{Stmt}
use Rattle.cv_core.specs.declared.program.Form.{Form}
use Rattle.cv_core.specs.declared.program.Form.TheVariants as form
use Rattle.cv_meaning.specs.Memory.{Memory}
use Rattle.cv_meaning.specs.State.{Frame, State}
use Rattle.cv_meaning.specs.Step.{Next, step}
use Rattle.cv_meaning.specs.Call.{Errs, Goes}
use Rattle.cv_meaning.specs.Run.{as_goes, turn}
use Rattle.cv_interp.specs.declared.machine.Core.{Core}
use Rattle.cv_interp.specs.declared.machine.Ended.{Ended}
use Rattle.cv_interp.specs.declared.machine.Ended.TheVariants as ended
use Rattle.cv_interp.specs.declared.machine.Turn.TheVariants as answers
use Rattle.cv_interp.specs.declared.store.Store.{Store}
use Rattle.cv_interp.specs.declared.store.Waiting.{Waiting}
use Rattle.cv_interp.specs.Good.{IsGood, IsWaiting, Leads, is_plain}
use Rattle.cv_interp.specs.Machine.{end, state_of, turn_of}
use Rattle.cv_interp.specs.Seen.{frame, state}
use Rattle.cv_interp.specs.Slots.{env_of}
use Rattle.cv_interp.specs.Sound.{Keeps}
use Rattle.cv_interp.specs.Stack.{stack_of}
use Rattle.cv_interp.specs.Takes.{IsKept, IsReady, IsSmall}
use Rattle.cv_interp.proofs.Leads as leads
use Rattle.cv_core.specs.Within.{few_locals, few_stmts}
use Rattle.cv_interp.proofs.Limited.{form_written, inside}
use Rattle.cv_interp.proofs.Stepped.{IsNext, Nexts, ready, step_sound}
use Rattle.cv_interp.proofs.Typed.{fit_keeps}

pub plain_turn : (P : Program) (f : Frame) (k : ℕ) (form : Form) (s : State) → is_plain form ≡ true → turn P f k form s ≡ as_goes (step P f k form s)
unfolding turn
plain_turn P f k (form.Assign x e) s h = refl
plain_turn P f k (form.Sum x d e) s h = refl
plain_turn P f k (form.Minus x d e) s h = refl
plain_turn P f k (form.Product x z e) s h = refl
plain_turn P f k (form.Quotient x e z) s h = refl
plain_turn P f k (form.Remainder x e z) s h = refl
plain_turn P f k (form.CopyPtr p q) s h = refl
plain_turn P f k (form.Address p a) s h = refl
plain_turn P f k (form.Shift p q e) s h = refl
plain_turn P f k (form.Load x p) s h = refl
plain_turn P f k (form.Store p e) s h = refl
plain_turn P f k (form.Get x w) s h = refl
plain_turn P f k (form.Put w e) s h = refl
plain_turn P f k (form.Diff x p q) s h = refl
plain_turn P f k (form.Goto to) s h = refl
plain_turn P f k (form.If e r d to) s h = refl
plain_turn P f k (form.IfByte p equal to) s h = refl
plain_turn P f k (form.Call into g args) s h = absurd (cc)
plain_turn P f k (form.Return e) s h = absurd (cc)

-- the state of the stack is the state of the store
pub state_same : (c : Core) → state_of (stack_of c) ≡ state c.running.proc.now c.store
unfolding env_of
state_same c = refl

-- what waits, after a change of the memory that keeps its cells
pub one_keeps : (P : Program) (m n : Memory) (w : Waiting) → Keeps m n → IsWaiting P m w → IsWaiting P n w
one_keeps P m n w k h = record {
  active = h.active;
  call = h.call;
  whole = h.whole;
  fit = fit_keeps w.activation.proc.now m n (env_of w.activation.proc.now w.vars.items) k h.fit;
  locals = λ i l at c. k (w.activation.permit.first + i) (h.locals i l at c);
}

pub waiting_keeps : (P : Program) (m n : Memory) (ws : List Waiting) → Keeps m n → All (IsWaiting P m) ws → All (IsWaiting P n) ws
waiting_keeps P m n ws k h = λ i d lt. one_keeps P m n (slice_index_or ws i d) k (h i d lt)

-- ---- it goes on

pub go_leads : (c : Core) (st : Stmt) (j : ℕ) (t : Store) → c.ended ≡ None → slice_get (stmts_of c.running.proc.now.body) c.at ≡ Some st → is_plain st.form ≡ true →
    step c.program.now (frame c.running) c.at st.form (state c.running.proc.now c.store) ≡ Ok (j, state c.running.proc.now t) →
    Leads (stack_of c) answers.On (stack_of (record c { at = j; store = t }))
go_leads c st j t on at plain e =
    let is : turn c.program.now (frame c.running) c.at st.form (state_of (stack_of c)) ≡ Goes j (state_of (stack_of (record c { at = j; store = t }))) =
    ap (turn c.program.now (frame c.running) c.at st.form) (state_same c)
    ∙ plain_turn c.program.now (frame c.running) c.at st.form (state c.running.proc.now c.store) plain ∙ ap as_goes e
    ∙ ap (Goes j) (sym (state_same (record c { at = j; store = t }))) in
    let stands : (n : ℕ) → end (stack_of (record c { at = j; store = t })) n ≡ end (stack_of c) (1 + n) =
    leads.goes (stack_of c) (stack_of (record c { at = j; store = t })) st j (state_of (stack_of (record c { at = j; store = t }))) on at is on refl refl refl refl refl in
    record { turn = sym (ap turn_of (leads.on_now (stack_of c) (stack_of (record c { at = j; store = t })) on stands)); stands = stands }

ok_state : (P : Program) (f : Frame) (s t : State) (j : ℕ) (next : Next) → next ≡ Ok (j, t) → Nexts P f s next → IsNext P f s t
ok_state P f s t j next e h = subst (λ (n : Next). Nexts P f s n) e h

pub go_good : (c : Core) (st : Stmt) (j : ℕ) (t : Store) → IsGood c → slice_get (stmts_of c.running.proc.now.body) c.at ≡ Some st →
    step c.program.now (frame c.running) c.at st.form (state c.running.proc.now c.store) ≡ Ok (j, state c.running.proc.now t) → IsKept c.store t →
    IsGood (record c { at = j; store = t })
go_good c st j t good at e kept =
    let next : IsNext c.program.now (frame c.running) (state c.running.proc.now c.store) (state c.running.proc.now t) =
    ok_state c.program.now (frame c.running) (state c.running.proc.now c.store) (state c.running.proc.now t) j
    (step c.program.now (frame c.running) c.at st.form (state c.running.proc.now c.store)) e
    (step_sound c.program.now (frame c.running) c.at st.form (state c.running.proc.now c.store)
    (good.program.statements c.running.number c.at c.running.proc.now st good.active.proc at).kinds good.state) in
    let same : length t.room.memory ≡ length c.store.room.memory = next.length in
    let vars : length t.room.vars.items ≡ length c.store.room.vars.items = kept.0 in
    let made : t.room.made ≡ c.store.room.made = kept.1 in
    record {
      program = good.program;
      limits = good.limits;
      written = good.written;
      active = good.active;
      room = record { whole = vars ∙ good.room.whole; made = made ∙ good.room.made ∙ sym same; few = subst (λ n. n ≤ 2 ^ 62) (sym made) good.room.few };
      state = next.state;
      waiting = waiting_keeps c.program.now c.store.room.memory t.room.memory c.waiting.items next.keeps good.waiting;
    }

-- ---- it errs

pub fail_leads : (c d : Core) (st : Stmt) (kind : ErrKind) → c.ended ≡ None → slice_get (stmts_of c.running.proc.now.body) c.at ≡ Some st →
    turn c.program.now (frame c.running) c.at st.form (state c.running.proc.now c.store) ≡ Errs kind →
    d.ended ≡ Some (ended.Error kind c.running.number st.line) → d.store.output.items ≡ c.store.output.items →
    Leads (stack_of c) (answers.Error kind c.running.number st.line) (stack_of d)
fail_leads c d st kind on at is done out =
    let t : turn c.program.now (frame c.running) c.at st.form (state_of (stack_of c)) ≡ Errs kind = ap (turn c.program.now (frame c.running) c.at st.form) (state_same c) ∙ is in
    record {
      turn = sym (ap turn_of (leads.errs_now (stack_of c) st kind on at t));
      stands = leads.errs (stack_of c) (stack_of d) st kind on at t done out;
    }

pub fail_plain : (c : Core) (st : Stmt) (kind : ErrKind) → c.ended ≡ None → slice_get (stmts_of c.running.proc.now.body) c.at ≡ Some st → is_plain st.form ≡ true →
    step c.program.now (frame c.running) c.at st.form (state c.running.proc.now c.store) ≡ Err kind →
    Leads (stack_of c) (answers.Error kind c.running.number st.line) (stack_of (record c { ended = Some (ended.Error kind c.running.number st.line) }))
fail_plain c st kind on at plain e =
    fail_leads c (record c { ended = Some (ended.Error kind c.running.number st.line) }) st kind on at
    (plain_turn c.program.now (frame c.running) c.at st.form (state c.running.proc.now c.store) plain ∙ ap as_goes e) refl refl

pub fail_good : (c : Core) (e : Option Ended) → IsGood c → IsGood (record c { ended = e })
fail_good c e good = record {
  program = good.program;
  limits = good.limits;
  written = good.written;
  active = good.active;
  room = good.room;
  state = good.state;
  waiting = good.waiting;
}

-- ---- what the step needs

pub go_small : (c : Core) → IsGood c → IsSmall c.running
go_small c good =
    let few : length (locals_of c.running.proc.now.body) ≤ 200 = few_locals c.program.now c.running.number c.running.proc.now good.limits good.active.proc in
    let first : c.running.permit.first ≤ 2 ^ 62 = good.active.first in
    omega arith

pub go_ready : (c : Core) (st : Stmt) → IsGood c → slice_get (stmts_of c.running.proc.now.body) c.at ≡ Some st →
    IsReady c.running.proc.now (env_of c.running.proc.now c.store.room.vars.items) c.store.room.memory st.form
go_ready c st good at =
    ready c.program.now c.running.proc.now (state c.running.proc.now c.store) st.form
    (good.program.statements c.running.number c.at c.running.proc.now st good.active.proc at).kinds
    (form_written c.program.now c.running.number c.at c.running.proc.now st good.written good.active.proc at) good.state.fit

-- the number of a statement is small
pub at_small : (P : Program) (i k : ℕ) (f : Proc) (st : Stmt) → first_limit P ≡ None → slice_get P.procs i ≡ Some f → slice_get (stmts_of f.body) k ≡ Some st → k < 1000
at_small P i k f st e at there =
    let few : length (stmts_of f.body) ≤ 1000 = few_stmts P i f e at in
    let there_is : k < length (stmts_of f.body) = inside (stmts_of f.body) k st there in
    omega arith
