-- A machine behind the return of the procedure that ran.
use Rattle.std.proofs.Common.{◌≡◌, refl, sym, ap, subst, ◌∙◌, ℕ, suc, ◌+◌, List, [], ◌∷◌, ◌++◌, length, map, Option, Some, None, arith, true}
use Rattle.std.specs.Prelude.{All, IfSome, slice_get}
use Rattle.std.proofs.lemmas.List.{map-append}
use Rattle.std.proofs.lemmas.List.Elements.{All-pop}
use Rattle.cv_core.specs.Kinds.{has_kinds}
use Rattle.cv_core.specs.Meant.{built_in, called}
use Rattle.cv_core.specs.Names.{Name, stmts_of}
use Rattle.cv_core.specs.declared.program.Program.{Program}
use Rattle.cv_core.specs.declared.program.Proc.{Proc}
use Rattle.cv_core.specs.declared.program.Form.{Form}
use Rattle.cv_core.specs.declared.program.Form.TheVariants as form
use Rattle.cv_meaning.specs.declared.memory.Value.{Value}
use Rattle.cv_meaning.specs.Look.{look}
use Rattle.cv_meaning.specs.State.{Frame, State}
use Rattle.cv_meaning.specs.Call.{give}
use Rattle.cv_meaning.specs.Run.{Returned, into_of, run}
use Rattle.cv_interp.specs.declared.machine.Core.{Core}
use Rattle.cv_interp.specs.declared.machine.Ended.TheVariants as ended
use Rattle.cv_interp.specs.declared.machine.Turn.TheVariants as answers
use Rattle.cv_interp.specs.declared.store.Activation.{Activation}
use Rattle.cv_interp.specs.declared.store.Room.{Room}
use Rattle.cv_interp.specs.declared.store.Waiting.{Waiting}
use Rattle.cv_interp.specs.Called.{IsInto}
use Rattle.cv_interp.specs.Entered.{IsRoom}
use Rattle.cv_interp.specs.Good.{IsGood, IsWaiting}
use Rattle.cv_interp.specs.Level.{Level, Stack}
use Rattle.cv_interp.specs.Machine.{Outcome, answer_of, end, end_behind, form_held, form_of, frame_of, into_at, is_call, resumed, seen, state_of, turn_of}
use Rattle.cv_interp.specs.Seen.{frame, left, state}
use Rattle.cv_interp.specs.Slots.{env_of}
use Rattle.cv_interp.specs.Sound.{IsState}
use Rattle.cv_interp.specs.Stack.{stack_of, waiting_level}
use Rattle.cv_interp.specs.Takes.{IsNear}
use Rattle.cv_interp.proofs.Calling.{IsPlain, give_later, IsLater}
use Rattle.cv_interp.proofs.Going.{waiting_keeps}
use Rattle.cv_interp.proofs.Guests.{call_plain, call_slot}
use Rattle.cv_interp.proofs.Leads.{end_open, end_returned, end_zero, resumed_append}
use Rattle.cv_interp.proofs.Parts.{fine_of, good_of}

-- ---- stacks

-- the level l goes on behind its call
pub resumes : (m t : Stack) (v : Option Value) (ls : List Level) (l : Level) → m.waiting ≡ ls ++ l ∷ [] →
    t.ended ≡ None → t.program ≡ m.program → t.waiting ≡ ls → frame_of t.running ≡ frame_of l → t.running.at ≡ suc l.at →
    state_of t ≡ give m.program (frame_of l) (into_of (form_of l)) v (record { vars = look l.vars; memory = m.memory; world = m.world; output = m.output }) →
    (n : ℕ) → end t n ≡ end_behind m v n
resumes m t v ls l stack still same below frame there state n =
    end_open t n still
    ∙ ap (λ P. seen (resumed P t.waiting (run n P (frame_of t.running) t.running.at (state_of t)))) same
    ∙ ap (λ ws. seen (resumed m.program ws (run n m.program (frame_of t.running) t.running.at (state_of t)))) below
    ∙ ap (λ f. seen (resumed m.program ls (run n m.program f t.running.at (state_of t)))) frame
    ∙ ap (λ k. seen (resumed m.program ls (run n m.program (frame_of l) k (state_of t)))) there
    ∙ ap (λ s. seen (resumed m.program ls (run n m.program (frame_of l) (suc l.at) s))) state
    ∙ sym (ap seen (resumed_append m.program ls l (Returned v m.memory n m.world m.output)))
    ∙ sym (ap (λ ws. seen (resumed m.program ws (Returned v m.memory n m.world m.output))) stack)

-- none waits
pub ends_behind : (m t : Stack) (v : Option Value) → m.waiting ≡ [] → t.ended ≡ Some (ended.Returned (answer_of v)) → t.output ≡ m.output → (n : ℕ) → end t n ≡ end_behind m v n
ends_behind m t v bottom done out n =
    end_returned t n (answer_of v) done
    ∙ ap (λ (o : List ℕ). seen (Returned v m.memory n m.world o)) out
    ∙ sym (ap (λ ws. seen (resumed m.program ws (Returned v m.memory n m.world m.output))) bottom)

-- ---- the level that goes on

-- the state in which w goes on, before the answer is given
abbrev pub state_back : Core → Waiting → State
state_back c w = record { vars = env_of w.activation.proc.now w.vars.items; memory = c.store.room.memory; world = left c.store.world c.store.room.taken; output = c.store.output.items }

form_plain : (P : Program) (f : Proc) (form : Form) → has_kinds P f form ≡ true → is_call form ≡ true → IsPlain f (into_of form) × IsInto f (into_of form)
form_plain P f (form.Call into g args) h c = (call_plain P f into args (built_in g) (called P g) h, call_slot P f into args (built_in g) (called P g) h)
form_plain P f (form.Assign x e) h c = absurd (cc)
form_plain P f (form.Sum x d e) h c = absurd (cc)
form_plain P f (form.Minus x d e) h c = absurd (cc)
form_plain P f (form.Product x z e) h c = absurd (cc)
form_plain P f (form.Quotient x e z) h c = absurd (cc)
form_plain P f (form.Remainder x e z) h c = absurd (cc)
form_plain P f (form.CopyPtr p q) h c = absurd (cc)
form_plain P f (form.Address p a) h c = absurd (cc)
form_plain P f (form.Shift p q e) h c = absurd (cc)
form_plain P f (form.Load x p) h c = absurd (cc)
form_plain P f (form.Store p e) h c = absurd (cc)
form_plain P f (form.Get x w) h c = absurd (cc)
form_plain P f (form.Put w e) h c = absurd (cc)
form_plain P f (form.Diff x p q) h c = absurd (cc)
form_plain P f (form.Goto to) h c = absurd (cc)
form_plain P f (form.If e r d to) h c = absurd (cc)
form_plain P f (form.IfByte p equal to) h c = absurd (cc)
form_plain P f (form.Return e) h c = absurd (cc)

pub back_plain : (c : Core) (w : Waiting) → IsGood c → IsWaiting c.program.now c.store.room.memory w → IsPlain w.activation.proc.now (into_at w.activation.proc.now w.at) × IsInto w.activation.proc.now (into_at w.activation.proc.now w.at)
back_plain c w good h =
    let is : form_held (slice_get (stmts_of w.activation.proc.now.body) w.at) ≡ h.call.stmt.form = ap form_held h.call.there in
    let p = form_plain c.program.now w.activation.proc.now h.call.stmt.form
    (good.program.statements w.activation.number w.at w.activation.proc.now h.call.stmt h.active.proc h.call.there).kinds h.call.call in
    subst (λ (form : Form). IsPlain w.activation.proc.now (into_of form) × IsInto w.activation.proc.now (into_of form)) (sym is) p

back_state : (c : Core) (w : Waiting) → IsGood c → IsWaiting c.program.now c.store.room.memory w → IsState c.program.now (frame w.activation) (state_back c w)
back_state c w good h = record { fit = h.fit; memory = good.state.memory; globals = good.state.globals; locals = h.locals }

given_later : (P : Program) (f : Frame) (into : Option Name) (v : Option Value) (s : State) → IsPlain f.proc into → IfSome v IsNear → IsState P f s → IsLater P f s (give P f into v s)
given_later P f into (Some v) s plain near i = give_later P f into v s plain near i
given_later P f None None s plain near i = (i, λ o c. c)
given_later P f (Some x) None s plain near i = (i, λ o c. c)

pub back_room : (c : Core) (w : Waiting) (r : Room) → IsGood c → IsWaiting c.program.now c.store.room.memory w → r ≡ record c.store.room { vars = w.vars } → IsRoom w.activation.proc.now r
back_room c w r good h e = subst (λ (q : Room). IsRoom w.activation.proc.now q) (sym e) (record { whole = h.whole; made = good.room.made; few = good.room.few })

pub back_good : (c d : Core) (w : Waiting) (v : Option Value) → IsGood c → IsWaiting c.program.now c.store.room.memory w → All (IsWaiting c.program.now c.store.room.memory) d.waiting.items →
    IfSome v IsNear → d.program.now ≡ c.program.now → d.running ≡ w.activation → IsRoom w.activation.proc.now d.store.room →
    state w.activation.proc.now d.store ≡ give c.program.now (frame w.activation) (into_at w.activation.proc.now w.at) v (state_back c w) → IsGood d
back_good c d w v good h below near same running room given =
    let later : IsLater c.program.now (frame w.activation) (state_back c w) (give c.program.now (frame w.activation) (into_at w.activation.proc.now w.at) v (state_back c w)) =
    given_later c.program.now (frame w.activation) (into_at w.activation.proc.now w.at) v (state_back c w) (back_plain c w good h).0 near (back_state c w good h) in
    let now : IsLater c.program.now (frame w.activation) (state_back c w) (state w.activation.proc.now d.store) =
    subst (λ (s : State). IsLater c.program.now (frame w.activation) (state_back c w) s) (sym given) later in
    good_of d c.program.now w.activation d.waiting.items same running refl (fine_of c good) h.active room now.0
    (waiting_keeps c.program.now c.store.room.memory d.store.room.memory d.waiting.items now.1 below)

pub back_stands : (c d : Core) (w : Waiting) (v : Option Value) → c.waiting.items ≡ d.waiting.items ++ w ∷ [] → d.ended ≡ None → d.program.now ≡ c.program.now → d.running ≡ w.activation → d.at ≡ w.at + 1 →
    state w.activation.proc.now d.store ≡ give c.program.now (frame w.activation) (into_at w.activation.proc.now w.at) v (state_back c w) →
    (n : ℕ) → end (stack_of d) n ≡ end_behind (stack_of c) v n
unfolding env_of
back_stands c d w v popped on same running there given n =
    let next : w.at + 1 ≡ suc w.at = omega arith in
    resumes (stack_of c) (stack_of d) v (map waiting_level d.waiting.items) (waiting_level w)
    (ap (map waiting_level) popped ∙ map-append waiting_level d.waiting.items (w ∷ []))
    on same refl (ap frame running) (there ∙ next) (ap (λ (a : Activation). state a.proc.now d.store) running ∙ given) n

pub back_turn : (c d : Core) (v : Option Value) → d.ended ≡ None → ((n : ℕ) → end (stack_of d) n ≡ end_behind (stack_of c) v n) → answers.On ≡ turn_of (end_behind (stack_of c) v 0).how
back_turn c d v on stands = sym (ap (λ (o : Outcome). turn_of o.how) (sym (stands 0) ∙ end_zero (stack_of d) on))

-- ---- the level that waited

pub popped : (c : Core) (ws : List Waiting) (w : Waiting) → IsGood c → c.waiting.items ≡ ws ++ w ∷ [] →
    All (IsWaiting c.program.now c.store.room.memory) ws × IsWaiting c.program.now c.store.room.memory w
popped c ws w good e = All-pop (IsWaiting c.program.now c.store.room.memory) c.waiting.items ws (Some w) e good.waiting

pub none_waits : (ws : List Waiting) → length ws ≡ 0 → ws ≡ []
none_waits [] e = refl
none_waits (w ∷ ws) e = absurd (omega arith)
