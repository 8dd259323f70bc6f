-- A machine behind a call.
use Rattle.std.proofs.Common.{◌≡◌, refl, sym, ap, subst, ◌∙◌, ℕ, zero, suc, ◌+◌, ◌<◌, ◌≤◌, ◌^◌, List, [], ◌∷◌, ◌++◌, length, map, Option, Some, None, arith, pos}
use Rattle.std.specs.Prelude.{All, slice_get, slice_index_or, true}
use Rattle.std.proofs.lemmas.List.{map-append}
use Rattle.std.proofs.lemmas.List.Elements.{All-append}
use Rattle.cv_core.specs.Names.{Name, stmts_of}
use Rattle.cv_core.specs.Kinds.{calls, has_kinds}
use Rattle.cv_core.specs.Meant.{built_in}
use Rattle.cv_core.specs.Meant.{called as proc_called}
use Rattle.cv_core.specs.declared.faults.ErrKind.{ErrKind}
use Rattle.cv_core.specs.declared.program.AnyOperand.{AnyOperand}
use Rattle.cv_core.specs.declared.program.Stmt.{Stmt}
use Rattle.cv_core.specs.declared.program.Form.{Form}
use Rattle.cv_core.specs.declared.program.Form.TheVariants as form
use Rattle.cv_meaning.specs.State.{any_value}
use Rattle.cv_meaning.specs.Call.{Turn, Errs, Goes, Enters, call, first_number}
use Rattle.cv_meaning.specs.Run.{turn}
use Rattle.cv_interp.specs.declared.calls.Called.{Called}
use Rattle.cv_interp.specs.declared.calls.Called.TheVariants as called
use Rattle.cv_interp.specs.declared.calls.Entered.{Entered}
use Rattle.cv_interp.specs.declared.machine.Core.{Core}
use Rattle.cv_interp.specs.declared.machine.Ended.TheVariants as ended
use Rattle.cv_interp.specs.declared.machine.Turn.TheVariants as answers
use Rattle.cv_interp.specs.declared.store.Activation.{Activation}
use Rattle.cv_interp.specs.declared.store.Room.{Room}
use Rattle.cv_interp.specs.declared.store.Store.{Store}
use Rattle.cv_interp.specs.declared.store.Waiting.{Waiting}
use Rattle.cv_interp.specs.Called.{IsCalled, IsInto, IsSame}
use Rattle.cv_interp.specs.Entered.{IsRoom}
use Rattle.cv_interp.specs.Good.{IsGood, IsWaiting, Leads}
use Rattle.cv_interp.specs.Machine.{end, is_call, turn_of}
use Rattle.cv_interp.specs.Seen.{frame, state}
use Rattle.cv_interp.specs.Slots.{env_of}
use Rattle.cv_interp.specs.Sound.{HasGlobals, HasLocals, IsFit, IsMemory}
use Rattle.cv_interp.specs.Stack.{level_at, stack_of, waiting_level}
use Rattle.cv_interp.proofs.Calling.{IsLater, Leads_on}
use Rattle.cv_interp.proofs.Going.{fail_leads, waiting_keeps}
use Rattle.cv_interp.proofs.Guests.{call_later, call_slot}
use Rattle.cv_interp.proofs.Leads as leads
use Rattle.cv_interp.proofs.Parts.{fine_of, good_of}
use Rattle.cv_interp.proofs.Typed.{fit_keeps}

-- c stands at a call of x
pub record IsCalling (c : Core) (st : Stmt) (into : Option Name) (x : Name) (args : List AnyOperand) : Type 0 where
  pub good : IsGood c
  pub on : c.ended ≡ None
  pub at : slice_get (stmts_of c.running.proc.now.body) c.at ≡ Some st
  pub form : st.form ≡ form.Call into x args
  pub small : (n : ℕ) → first_number (map (any_value (env_of c.running.proc.now c.store.room.vars.items)) args) ≡ pos n → n < 2 ^ 31

-- what the call leads to
abbrev pub called_turn : Core → Option Name → Name → List AnyOperand → Turn
called_turn c into x args =
    call c.program.now (frame c.running) c.at into x (map (any_value (env_of c.running.proc.now c.store.room.vars.items)) args) (state c.running.proc.now c.store)

turn_is : (c : Core) (st : Stmt) (into : Option Name) (x : Name) (args : List AnyOperand) → st.form ≡ form.Call into x args →
    turn c.program.now (frame c.running) c.at st.form (state c.running.proc.now c.store) ≡ called_turn c into x args
unfolding turn
turn_is c st into x args e = ap (λ (f : Form). turn c.program.now (frame c.running) c.at f (state c.running.proc.now c.store)) e

kinds_of_call : (c : Core) (st : Stmt) (into : Option Name) (x : Name) (args : List AnyOperand) → IsGood c → slice_get (stmts_of c.running.proc.now.body) c.at ≡ Some st →
    st.form ≡ form.Call into x args → calls c.program.now c.running.proc.now into args (built_in x) (proc_called c.program.now x) ≡ true
kinds_of_call c st into x args good at is =
    sym (ap (has_kinds c.program.now c.running.proc.now) is) ∙ (good.program.statements c.running.number c.at c.running.proc.now st good.active.proc at).kinds

-- the destination of the call has a slot
pub into_is : (c : Core) (st : Stmt) (into : Option Name) (x : Name) (args : List AnyOperand) → IsGood c → slice_get (stmts_of c.running.proc.now.body) c.at ≡ Some st →
    st.form ≡ form.Call into x args → IsInto c.running.proc.now into
into_is c st into x args good at is = call_slot c.program.now c.running.proc.now into args (built_in x) (proc_called c.program.now x) (kinds_of_call c st into x args good at is)

sound_call : (c : Core) (st : Stmt) (into : Option Name) (x : Name) (args : List AnyOperand) → IsCalling c st into x args → (t : Turn) → called_turn c into x args ≡ t →
    Leads_on c.program.now (frame c.running) (state c.running.proc.now c.store) t
sound_call c st into x args h t e =
    subst (Leads_on c.program.now (frame c.running) (state c.running.proc.now c.store)) e
    (call_later c.program.now (frame c.running) x c.at into args (state c.running.proc.now c.store) h.small h.good.written (kinds_of_call c st into x args h.good h.at h.form) h.good.state)

-- ---- it errs

pub errs_good : (c d : Core) → IsGood c → d.program.now ≡ c.program.now → d.running ≡ c.running → d.waiting.items ≡ c.waiting.items → d.store.room ≡ c.store.room → IsGood d
errs_good c d good same running waiting room =
    good_of d c.program.now c.running c.waiting.items same running waiting (fine_of c good) good.active
    (subst (λ (r : Room). IsRoom c.running.proc.now r) (sym room) good.room)
    (record {
      fit = subst (λ (r : Room). IsFit c.running.proc.now r.memory (env_of c.running.proc.now r.vars.items)) (sym room) good.state.fit;
      memory = subst (λ (r : Room). IsMemory r.memory) (sym room) good.state.memory;
      globals = subst (λ (r : Room). HasGlobals c.program.now r.memory) (sym room) good.state.globals;
      locals = subst (λ (r : Room). HasLocals c.running.proc.now c.running.permit.first r.memory) (sym room) good.state.locals;
    })
    (subst (λ (r : Room). All (IsWaiting c.program.now r.memory) c.waiting.items) (sym room) good.waiting)

pub errs_leads : (c d : Core) (st : Stmt) (into : Option Name) (x : Name) (args : List AnyOperand) (kind : ErrKind) → IsCalling c st into x args → called_turn c into x args ≡ Errs kind →
    d.ended ≡ Some (ended.Error kind c.running.number st.line) → d.store.output.items ≡ c.store.output.items → Leads (stack_of c) (answers.Error kind c.running.number st.line) (stack_of d)
errs_leads c d st into x args kind h e done out = fail_leads c d st kind h.on h.at (turn_is c st into x args h.form ∙ e) done out

-- nothing has changed
pub same_stack : (c d : Core) → d.program.now ≡ c.program.now → d.running ≡ c.running → d.waiting.items ≡ c.waiting.items → d.at ≡ c.at → d.ended ≡ c.ended → IsSame c.store d.store → stack_of d ≡ stack_of c
same_stack c d same running waiting at ended h = rw (same, running, waiting, at, ended, h.room, h.world, h.output) refl

-- ---- it goes on

pub on_good : (c d : Core) (st : Stmt) (into : Option Name) (x : Name) (args : List AnyOperand) → IsCalling c st into x args →
    called_turn c into x args ≡ Goes (suc c.at) (state c.running.proc.now d.store) → IsRoom c.running.proc.now d.store.room →
    d.program.now ≡ c.program.now → d.running ≡ c.running → d.waiting.items ≡ c.waiting.items → IsGood d
on_good c d st into x args h e room same running waiting =
    let later : IsLater c.program.now (frame c.running) (state c.running.proc.now c.store) (state c.running.proc.now d.store) =
    sound_call c st into x args h (Goes (suc c.at) (state c.running.proc.now d.store)) e in
    good_of d c.program.now c.running c.waiting.items same running waiting (fine_of c h.good) h.good.active room later.0
    (waiting_keeps c.program.now c.store.room.memory d.store.room.memory c.waiting.items later.1 h.good.waiting)

pub on_leads : (c d : Core) (st : Stmt) (into : Option Name) (x : Name) (args : List AnyOperand) → IsCalling c st into x args →
    called_turn c into x args ≡ Goes (suc c.at) (state c.running.proc.now d.store) →
    d.program.now ≡ c.program.now → d.running ≡ c.running → d.waiting.items ≡ c.waiting.items → d.at ≡ c.at + 1 → d.ended ≡ None → Leads (stack_of c) answers.On (stack_of d)
unfolding env_of
on_leads c d st into x args h e same running waiting there on =
    let next : c.at + 1 ≡ suc c.at = omega arith in
    let stands : (n : ℕ) → end (stack_of d) n ≡ end (stack_of c) (1 + n) =
    leads.goes (stack_of c) (stack_of d) st (suc c.at) (state c.running.proc.now d.store) h.on h.at (turn_is c st into x args h.form ∙ e)
    on same (ap (map waiting_level) waiting) (ap frame running) (there ∙ next) (ap (λ (a : Activation). state a.proc.now d.store) running) in
    record { turn = sym (ap turn_of (leads.on_now (stack_of c) (stack_of d) on stands)); stands = stands }

-- ---- a procedure is entered

alone : (Q : Waiting → Type 0) (x : Waiting) → Q x → All Q (x ∷ [])
alone Q x q = λ i z lt. at_place i z lt
  where
    at_place : (i : ℕ) (z : Waiting) → i < 1 → Q (slice_index_or (x ∷ []) i z)
    at_place zero z lt = q
    at_place (suc i) z lt = absurd (omega arith)

-- the level that ran, as it waits
abbrev pub caller : Core → Entered → Waiting
caller c e = record { activation = c.running; at = c.at; vars = e.vars }

pub in_good : (c d : Core) (st : Stmt) (into : Option Name) (x : Name) (args : List AnyOperand) (e : Entered) → IsCalling c st into x args →
    called_turn c into x args ≡ Enters (frame e.callee) (state e.callee.proc.now d.store) → e.vars.items ≡ c.store.room.vars.items → IsRoom e.callee.proc.now d.store.room →
    d.program.now ≡ c.program.now → d.running ≡ e.callee → d.waiting.items ≡ c.waiting.items ++ caller c e ∷ [] → IsGood d
in_good c d st into x args e h t vars room same running waiting =
    let (there, first, sound, keeps) = sound_call c st into x args h (Enters (frame e.callee) (state e.callee.proc.now d.store)) t in
    let few : c.store.room.made ≤ 2 ^ 62 = h.good.room.few in
    let made : c.store.room.made ≡ length c.store.room.memory = h.good.room.made in
    let old : e.callee.permit.first ≡ length c.store.room.memory = first in
    let small : e.callee.permit.first ≤ 2 ^ 62 = omega arith in
    good_of d c.program.now e.callee (c.waiting.items ++ caller c e ∷ []) same running waiting (fine_of c h.good) (record { proc = there; first = small }) room sound
    (All-append (IsWaiting c.program.now d.store.room.memory) c.waiting.items (caller c e ∷ [])
    (waiting_keeps c.program.now c.store.room.memory d.store.room.memory c.waiting.items keeps h.good.waiting)
    (alone (IsWaiting c.program.now d.store.room.memory) (caller c e) (record {
      active = h.good.active;
      call = record { stmt = st; there = h.at; call = ap is_call h.form };
      whole = ap length vars ∙ h.good.room.whole;
      fit = subst (λ vs. IsFit c.running.proc.now d.store.room.memory (env_of c.running.proc.now vs)) (sym vars)
          (fit_keeps c.running.proc.now c.store.room.memory d.store.room.memory (env_of c.running.proc.now c.store.room.vars.items) keeps h.good.state.fit);
      locals = λ i l at k. keeps (c.running.permit.first + i) (h.good.state.locals i l at k);
    })))

pub in_leads : (c d : Core) (st : Stmt) (into : Option Name) (x : Name) (args : List AnyOperand) (e : Entered) → IsCalling c st into x args →
    called_turn c into x args ≡ Enters (frame e.callee) (state e.callee.proc.now d.store) → e.vars.items ≡ c.store.room.vars.items →
    d.program.now ≡ c.program.now → d.running ≡ e.callee → d.waiting.items ≡ c.waiting.items ++ caller c e ∷ [] → d.at ≡ 0 → d.ended ≡ None → Leads (stack_of c) answers.On (stack_of d)
unfolding env_of
in_leads c d st into x args e h t vars same running waiting there on =
    let below : map waiting_level d.waiting.items ≡ map waiting_level c.waiting.items ++ level_at c.running c.at c.store.room.vars.items ∷ [] =
    ap (map waiting_level) waiting ∙ map-append waiting_level c.waiting.items (caller c e ∷ [])
    ∙ ap (λ vs. map waiting_level c.waiting.items ++ level_at c.running c.at vs ∷ []) vars in
    let stands : (n : ℕ) → end (stack_of d) n ≡ end (stack_of c) (1 + n) =
    leads.enters (stack_of c) (stack_of d) st (frame e.callee) (state e.callee.proc.now d.store) h.on h.at (turn_is c st into x args h.form ∙ t)
    on same below (ap frame running) there (ap (λ (a : Activation). state a.proc.now d.store) running) in
    record { turn = sym (ap turn_of (leads.on_now (stack_of c) (stack_of d) on stands)); stands = stands }

-- ---- the three ends of a call

pub as_errs : (a : Activation) (k : ℕ) (turn : Turn) (s t : Store) (d : Called) (kind : ErrKind) → d ≡ called.Errs kind → IsCalled a k turn s d t → (turn ≡ Errs kind) × IsSame s t
as_errs a k turn s t d kind e h = subst (λ (x : Called). IsCalled a k turn s x t) e h

pub as_goes : (a : Activation) (k : ℕ) (turn : Turn) (s t : Store) (d : Called) → d ≡ called.Goes → IsCalled a k turn s d t → (turn ≡ Goes (suc k) (state a.proc.now t)) × IsRoom a.proc.now t.room
as_goes a k turn s t d e h = subst (λ (x : Called). IsCalled a k turn s x t) e h

pub as_enters : (a : Activation) (k : ℕ) (turn : Turn) (s t : Store) (d : Called) (g : Entered) → d ≡ called.Enters g → IsCalled a k turn s d t →
    (turn ≡ Enters (frame g.callee) (state g.callee.proc.now t)) × (g.vars.items ≡ s.room.vars.items) × IsRoom g.callee.proc.now t.room
as_enters a k turn s t d g e h = subst (λ (x : Called). IsCalled a k turn s x t) e h

-- the statement that is a call
abbrev pub call_stmt : ℕ → Option Name → Name → List AnyOperand → Stmt
call_stmt line into x args = record { line = line; form = form.Call into x args }

pub entered_good : (c d : Core) (line : ℕ) (into : Option Name) (x : Name) (args : List AnyOperand) (e : Entered) (t : Store) → IsCalling c (call_stmt line into x args) into x args →
    (called_turn c into x args ≡ Enters (frame e.callee) (state e.callee.proc.now t)) × (e.vars.items ≡ c.store.room.vars.items) × IsRoom e.callee.proc.now t.room → d.store ≡ t →
    d.program.now ≡ c.program.now → d.running ≡ e.callee → d.waiting.items ≡ c.waiting.items ++ caller c e ∷ [] → IsGood d
entered_good c d line into x args e t h (turn, vars, room) store same running waiting =
    in_good c d (call_stmt line into x args) into x args e h (turn ∙ ap (λ (s : Store). Enters (frame e.callee) (state e.callee.proc.now s)) (sym store)) vars
    (subst (λ (s : Store). IsRoom e.callee.proc.now s.room) (sym store) room) same running waiting

pub entered_leads : (c d : Core) (line : ℕ) (into : Option Name) (x : Name) (args : List AnyOperand) (e : Entered) (t : Store) → IsCalling c (call_stmt line into x args) into x args →
    (called_turn c into x args ≡ Enters (frame e.callee) (state e.callee.proc.now t)) × (e.vars.items ≡ c.store.room.vars.items) × IsRoom e.callee.proc.now t.room → d.store ≡ t →
    d.program.now ≡ c.program.now → d.running ≡ e.callee → d.waiting.items ≡ c.waiting.items ++ caller c e ∷ [] → d.at ≡ 0 → d.ended ≡ None → Leads (stack_of c) answers.On (stack_of d)
entered_leads c d line into x args e t h (turn, vars, room) store same running waiting there on =
    in_leads c d (call_stmt line into x args) into x args e h (turn ∙ ap (λ (s : Store). Enters (frame e.callee) (state e.callee.proc.now s)) (sym store)) vars same running waiting there on
