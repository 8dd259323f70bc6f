-- A machine behind a return.
use Rattle.std.proofs.Common.{◌≡◌, refl, sym, ap, subst, ◌∙◌, ℕ, ◌+◌, ◌≤◌, ◌^◌, ◌⊎◌, inl, inr, List, length, map, Option, Some, None}
use Rattle.std.specs.Prelude.{IfSome, option_map, slice_get}
use Rattle.cv_core.specs.Names.{objects_of, stmts_of}
use Rattle.cv_core.specs.declared.faults.ErrKind.{ErrKind}
use Rattle.cv_core.specs.declared.program.AnyOperand.{AnyOperand}
use Rattle.cv_core.specs.declared.program.Program.{Program}
use Rattle.cv_core.specs.declared.program.Stmt.{Stmt}
use Rattle.cv_core.specs.declared.program.Form.{Form}
use Rattle.cv_core.specs.declared.program.Form.TheVariants as form
use Rattle.cv_meaning.specs.declared.memory.Value.{Value}
use Rattle.cv_meaning.specs.Memory.{Memory}
use Rattle.cv_meaning.specs.State.{Frame, State, any_value}
use Rattle.cv_meaning.specs.Call.{Turn, Errs, Leaves, leave, left_memory, option_value}
use Rattle.cv_meaning.specs.Run.{Returned, turn}
use Rattle.cv_interp.specs.declared.machine.Core.{Core}
use Rattle.cv_interp.specs.declared.machine.Ended.TheVariants as ended
use Rattle.cv_interp.specs.declared.machine.Turn.{Turn as Answer}
use Rattle.cv_interp.specs.declared.machine.Turn.TheVariants as answers
use Rattle.cv_interp.specs.declared.store.Waiting.{Waiting}
use Rattle.cv_interp.specs.Good.{IsGood, Leads}
use Rattle.cv_interp.specs.Machine.{Outcome, end, end_behind, resumed, seen, turn_of}
use Rattle.cv_interp.specs.Seen.{frame, state}
use Rattle.cv_interp.specs.Slots.{env_of}
use Rattle.cv_interp.specs.Sound.{IsFit, IsMemory, Keeps}
use Rattle.cv_interp.specs.Stack.{stack_of, waiting_level}
use Rattle.cv_interp.specs.Takes.{IsKept, IsNear}
use Rattle.cv_interp.proofs.Going.{fail_leads, state_same, waiting_keeps}
use Rattle.cv_interp.proofs.Leads.{end_by}
use Rattle.cv_interp.proofs.Memories.{kill_from_keeps, kill_from_length, kill_from_memory}
use Rattle.cv_interp.proofs.Parts.{fine_of, good_of}
use Rattle.cv_interp.proofs.Typed.{any_near, fit_keeps}

-- what a return leaves of a memory
record IsLeft (m n : Memory) : Type 0 where
  memory : IsMemory n
  keeps : Keeps m n
  length : length n ≡ length m

left_is : (f : Frame) (m n : Memory) → IsMemory m → (n ≡ m) ⊎ (n ≡ left_memory f m) → IsLeft m n
left_is f m n h (inl e) = subst (IsLeft m) (sym e) (record { memory = h; keeps = λ o c. c; length = refl })
left_is f m n h (inr e) = subst (IsLeft m) (sym e) (record {
  memory = kill_from_memory f.permit.first (length (objects_of f.proc)) m h;
  keeps = kill_from_keeps f.permit.first (length (objects_of f.proc)) m;
  length = kill_from_length f.permit.first (length (objects_of f.proc)) m;
})

pub out_good : (c d : Core) → IsGood c → d.program.now ≡ c.program.now → d.running ≡ c.running → d.waiting.items ≡ c.waiting.items → d.store.room.vars ≡ c.store.room.vars →
    (d.store.room.memory ≡ c.store.room.memory) ⊎ (d.store.room.memory ≡ left_memory (frame c.running) c.store.room.memory) → IsKept c.store d.store → IsGood d
out_good c d good same running waiting vars memory kept =
    let l : IsLeft c.store.room.memory d.store.room.memory = left_is (frame c.running) c.store.room.memory d.store.room.memory good.state.memory memory in
    let vars_same : d.store.room.vars.items ≡ c.store.room.vars.items = ap (λ v. v.items) vars in
    good_of d c.program.now c.running c.waiting.items same running waiting (fine_of c good) good.active
    (record { whole = kept.0 ∙ good.room.whole; made = kept.1 ∙ good.room.made ∙ sym l.length; few = subst (λ n. n ≤ 2 ^ 62) (sym kept.1) good.room.few })
    (record {
      fit = subst (λ vs. IsFit c.running.proc.now d.store.room.memory (env_of c.running.proc.now vs)) (sym vars_same)
          (fit_keeps c.running.proc.now c.store.room.memory d.store.room.memory (env_of c.running.proc.now c.store.room.vars.items) l.keeps good.state.fit);
      memory = l.memory;
      globals = λ j g at k. l.keeps j (good.state.globals j g at k);
      locals = λ j g at k. l.keeps (c.running.permit.first + j) (good.state.locals j g at k);
    })
    (waiting_keeps c.program.now c.store.room.memory d.store.room.memory c.waiting.items l.keeps good.waiting)

-- ---- the answer

pub answer_near : (c : Core) (e : Option AnyOperand) → IsGood c → IfSome (option_map (any_value (env_of c.running.proc.now c.store.room.vars.items)) e) IsNear
answer_near c None good = tt
answer_near c (Some e) good = any_near c.running.proc.now c.store.room.memory (env_of c.running.proc.now c.store.room.vars.items) e good.state.fit

option_same : (s : State) (e : Option AnyOperand) → option_map (any_value s.vars) e ≡ option_value s e
option_same s None = refl
option_same s (Some e) = refl

-- ---- where it leads

turn_is : (c : Core) (st : Stmt) (e : Option AnyOperand) (t : Turn) → st.form ≡ form.Return e →
    leave c.program.now (frame c.running) (option_map (any_value (env_of c.running.proc.now c.store.room.vars.items)) e) (state c.running.proc.now c.store) ≡ t →
    turn c.program.now (frame c.running) c.at st.form (state c.running.proc.now c.store) ≡ t
unfolding turn
turn_is c st e t is h =
    ap (λ (f : Form). turn c.program.now (frame c.running) c.at f (state c.running.proc.now c.store)) is
    ∙ ap (λ v. leave c.program.now (frame c.running) v (state c.running.proc.now c.store)) (sym (option_same (state c.running.proc.now c.store) e)) ∙ h

pub out_errs : (c d : Core) (st : Stmt) (e : Option AnyOperand) (v : Option Value) (kind : ErrKind) → c.ended ≡ None → slice_get (stmts_of c.running.proc.now.body) c.at ≡ Some st → st.form ≡ form.Return e →
    v ≡ option_map (any_value (env_of c.running.proc.now c.store.room.vars.items)) e → leave c.program.now (frame c.running) v (state c.running.proc.now c.store) ≡ Errs kind →
    d.ended ≡ Some (ended.Error kind c.running.number st.line) → d.store.output ≡ c.store.output → Leads (stack_of c) (answers.Error kind c.running.number st.line) (stack_of d)
out_errs c d st e v kind on at is answer h done out =
    fail_leads c d st kind on at
    (turn_is c st e (Errs kind) is (ap (λ u. leave c.program.now (frame c.running) u (state c.running.proc.now c.store)) (sym answer) ∙ h)) done (ap (λ o. o.items) out)

pub out_leads : (c b d : Core) (st : Stmt) (e : Option AnyOperand) (v : Option Value) (t : Answer) → c.ended ≡ None → slice_get (stmts_of c.running.proc.now.body) c.at ≡ Some st → st.form ≡ form.Return e →
    v ≡ option_map (any_value (env_of c.running.proc.now c.store.room.vars.items)) e →
    leave c.program.now (frame c.running) v (state c.running.proc.now c.store) ≡ Leaves v (state c.running.proc.now b.store) → b.program.now ≡ c.program.now → b.waiting.items ≡ c.waiting.items →
    t ≡ turn_of (end_behind (stack_of b) v 0).how → ((n : ℕ) → end (stack_of d) n ≡ end_behind (stack_of b) v n) → Leads (stack_of c) t (stack_of d)
out_leads c b d st e v t on at is answer h same waiting now stands = record { turn = now ∙ ap (λ (o : Outcome). turn_of o.how) (sym (here 0)); stands = λ n. stands n ∙ sym (here n) }
  where
    way : turn c.program.now (frame c.running) c.at st.form (state c.running.proc.now c.store) ≡ Leaves v (state c.running.proc.now b.store)
    way = turn_is c st e (Leaves v (state c.running.proc.now b.store)) is
        (ap (λ u. leave c.program.now (frame c.running) u (state c.running.proc.now c.store)) (sym answer) ∙ h)

    here : (n : ℕ) → end (stack_of c) (1 + n) ≡ end_behind (stack_of b) v n
    here n =
        end_by (stack_of c) n st (Leaves v (state c.running.proc.now b.store)) on at
        (ap (turn c.program.now (frame c.running) c.at st.form) (state_same c) ∙ way)
        ∙ ap (λ (ws : List Waiting). seen (resumed c.program.now (map waiting_level ws) (Returned v b.store.room.memory n (stack_of b).world b.store.output.items))) (sym waiting)
        ∙ ap (λ (P : Program). seen (resumed P (map waiting_level b.waiting.items) (Returned v b.store.room.memory n (stack_of b).world b.store.output.items))) (sym same)
