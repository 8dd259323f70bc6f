-- A machine at the start of main: it is sound, and ends where the run of main does.
use Rattle.std.proofs.Common.{◌≡◌, refl, sym, ap, subst, ◌∙◌, ℕ, ◌+◌, ◌≤◌, ◌^◌, Bool, true, false, List, [], ◌∷◌, length, map, Option, Some, None, arith}
use Rattle.std.specs.Prelude.{All, IsSome, if◌then◌else◌, slice_get, codes}
use Rattle.std.specs.Option.{option_and_then}
use Rattle.cv_core.specs.Grammar.{IsBody, IsLocal, IsProc, IsWritten}
use Rattle.cv_core.specs.Limits.{first_limit}
use Rattle.cv_core.specs.Names.{local_site, locals_of, place_of}
use Rattle.cv_core.specs.WellFormed.{IsSoundProgram}
use Rattle.cv_core.specs.declared.faults.ErrKind.TheVariants as err
use Rattle.cv_core.specs.declared.program.Program.{Program}
use Rattle.cv_core.specs.declared.program.Proc.{Proc}
use Rattle.cv_core.specs.declared.program.ProcBody.{ProcBody}
use Rattle.cv_meaning.specs.declared.ends.Arg.{Arg}
use Rattle.cv_meaning.specs.declared.memory.Value.{Value}
use Rattle.cv_meaning.specs.declared.memory.World.{World}
use Rattle.cv_meaning.specs.Call.{entered, may_enter}
use Rattle.cv_meaning.specs.Contract.{Env}
use Rattle.cv_meaning.specs.Memory.{Memory, cell_at}
use Rattle.cv_meaning.specs.Run.{Error, begin, begin_at, frame_of, run, run_main}
use Rattle.cv_meaning.specs.State.{Frame, State, bind, make_locals, no_vars}
use Rattle.cv_interp.specs.declared.machine.Core.{Core}
use Rattle.cv_interp.specs.declared.machine.Ended.{Ended}
use Rattle.cv_interp.specs.declared.machine.Ended.TheVariants as ended
use Rattle.cv_interp.specs.declared.store.Waiting.{Waiting}
use Rattle.cv_interp.specs.Entered.{IsRoom}
use Rattle.cv_interp.specs.Good.{IsGood, IsWaiting}
use Rattle.cv_interp.specs.Machine.{end, end_from, resumed, seen}
use Rattle.cv_interp.specs.Seen.{frame, state}
use Rattle.cv_interp.specs.Slots.{env_of}
use Rattle.cv_interp.specs.Sound.{IsFit, IsState}
use Rattle.cv_interp.specs.Stack.{stack_of, waiting_level}
use Rattle.cv_interp.specs.Start.{HasFewBytes, IsMain, fit, start_memory, start_values}
use Rattle.cv_interp.proofs.Arriving.{IsEntered, locals_entered}
use Rattle.cv_interp.proofs.Kept.{locals_cells}
use Rattle.cv_interp.proofs.Limited.{all_at}
use Rattle.cv_interp.proofs.Started.{start_fit, start_globals, start_is_memory}

-- ---- the run of main

main_begins : (n : ℕ) (P : Program) (i : ℕ) (main : Proc) (args : List Value) (m : Memory) (w : World) → place_of (λ g. g.name) (codes "main") P.procs ≡ Some i →
    slice_get P.procs i ≡ Some main → run_main n P args m w ≡ begin n P (entered P i main args m) m w
unfolding run_main
main_begins n P i main args m w place there =
    ap (λ (o : Option ℕ). begin_at n P m w (option_and_then (λ j. frame_of P args m j (slice_get P.procs j)) o)) place
    ∙ ap (λ (o : Option Proc). begin_at n P m w (frame_of P args m i o)) there

-- the state in which main is entered
abbrev pub first_state : Program → Frame → Memory → World → State
first_state P f m w =
    make_locals P (local_site P f.number) (locals_of f.proc.body) (record { vars = f.formals; memory = m; world = w; output = [] })

begins : (n : ℕ) (P : Program) (f : Frame) (m : Memory) (w : World) → may_enter P f ≡ true → begin n P f m w ≡ run n P f 0 (first_state P f m w)
begins n P f m w e = rw e refl

refuses : (n : ℕ) (P : Program) (f : Frame) (m : Memory) (w : World) → may_enter P f ≡ false → begin n P f m w ≡ Error err.Requires f.number f.proc.line []
refuses n P f m w e = rw e refl

-- ---- the end of a machine that has not moved

unmoved : (c : Core) (n : ℕ) → c.waiting.items ≡ [] → c.at ≡ 0 → c.ended ≡ None →
    end (stack_of c) n ≡ seen (run n c.program.now (frame c.running) 0 (state c.running.proc.now c.store))
unfolding end env_of
unmoved c n none at on =
    ap (λ (o : Option Ended). end_from (stack_of c) o n) on
    ∙ ap (λ (ws : List Waiting). seen (resumed c.program.now (map waiting_level ws) (run n c.program.now (frame c.running) c.at (state c.running.proc.now c.store)))) none
    ∙ ap (λ k. seen (run n c.program.now (frame c.running) k (state c.running.proc.now c.store))) at

pub starts : (c : Core) (i : ℕ) (main : Proc) (args : List Value) (m : Memory) (w : World) → place_of (λ g. g.name) (codes "main") c.program.now.procs ≡ Some i →
    slice_get c.program.now.procs i ≡ Some main → c.waiting.items ≡ [] → c.at ≡ 0 → c.ended ≡ None → frame c.running ≡ entered c.program.now i main args m →
    state c.running.proc.now c.store ≡ first_state c.program.now (frame c.running) m w → may_enter c.program.now (frame c.running) ≡ true →
    (n : ℕ) → end (stack_of c) n ≡ seen (run_main n c.program.now args m w)
starts c i main args m w place there none at on is first may = λ n.
    unmoved c n none at on ∙ ap (λ s. seen (run n c.program.now (frame c.running) 0 s)) first
    ∙ ap seen (sym (begins n c.program.now (frame c.running) m w may))
    ∙ ap (λ (f : Frame). seen (begin n c.program.now f m w)) is
    ∙ ap seen (sym (main_begins n c.program.now i main args m w place there))

errs_from : (c : Core) (n i line : ℕ) → c.store.output.items ≡ [] → c.ended ≡ Some (ended.Error err.Requires i line) → end (stack_of c) n ≡ seen (Error err.Requires i line [])
unfolding end
errs_from c n i line output done =
    ap (λ (o : Option Ended). end_from (stack_of c) o n) done ∙ ap (λ (bytes : List ℕ). seen (Error err.Requires i line bytes)) output

pub starts_refused : (c : Core) (i : ℕ) (main : Proc) (args : List Value) (m : Memory) (w : World) → place_of (λ g. g.name) (codes "main") c.program.now.procs ≡ Some i →
    slice_get c.program.now.procs i ≡ Some main → c.store.output.items ≡ [] → c.ended ≡ Some (ended.Error err.Requires i main.line) →
    frame c.running ≡ entered c.program.now i main args m → may_enter c.program.now (frame c.running) ≡ false →
    (n : ℕ) → end (stack_of c) n ≡ seen (run_main n c.program.now args m w)
starts_refused c i main args m w place there output done is may = λ n.
    errs_from c n i main.line output done
    ∙ ap seen (sym (refuses n c.program.now (entered c.program.now i main args m) m w (sym (ap (may_enter c.program.now) is) ∙ may)))
    ∙ ap seen (sym (main_begins n c.program.now i main args m w place there))

pub starts_or_errs : (c : Core) (i : ℕ) (main : Proc) (args : List Value) (m : Memory) (w : World) (b : Bool) → IsMain c.program.now i main → c.waiting.items ≡ [] → c.at ≡ 0 →
    c.store.output.items ≡ [] → may_enter c.program.now (frame c.running) ≡ b → c.ended ≡ (if b then None else Some (ended.Error err.Requires i main.line)) →
    frame c.running ≡ entered c.program.now i main args m → state c.running.proc.now c.store ≡ first_state c.program.now (frame c.running) m w →
    (n : ℕ) → end (stack_of c) n ≡ seen (run_main n c.program.now args m w)
starts_or_errs c i main args m w true is none at output may on same first = starts c i main args m w is.place is.there none at on same first may
starts_or_errs c i main args m w false is none at output may done same first = starts_refused c i main args m w is.place is.there output done same may

-- ---- it is sound

locals_written : (b : Option ProcBody) → IsBody b → All IsLocal (locals_of b)
locals_written None h = λ i d lt. absurd (omega arith)
locals_written (Some b) h = h.0

none_wait : (P : Program) (m : Memory) (ws : List Waiting) → ws ≡ [] → All (IsWaiting P m) ws
none_wait P m [] e = λ i d lt. absurd (omega arith)
none_wait P m (w ∷ ws) e = absurd (cc)

first_is_sound : (P : Program) (f : Frame) (args : List Arg) (site : ℕ) (w : World) → IsWritten P → first_limit P ≡ None → All HasFewBytes args → IsProc f.proc →
    fit f.proc.formals args ≡ true → f ≡ entered P f.number f.proc (start_values P args) (start_memory P args) →
    IsState P f (make_locals P site (locals_of f.proc.body) (record { vars = f.formals; memory = start_memory P args; world = w; output = [] }))
first_is_sound P f args site w written limits few proc mains is =
    let s : State = record { vars = f.formals; memory = start_memory P args; world = w; output = [] } in
    let vars : f.formals ≡ bind f.proc.formals (start_values P args) no_vars = ap (λ (g : Frame). g.formals) is in
    let formals : IsFit f.proc (start_memory P args) f.formals = subst (λ (v : Env). IsFit f.proc (start_memory P args) v) (sym vars) (start_fit P f.proc (start_memory P args) args mains) in
    let h : IsEntered f.proc s (make_locals P site (locals_of f.proc.body) s) =
    locals_entered P f.proc site (locals_of f.proc.body) s (locals_written f.proc.body proc.body) formals (start_is_memory P args written limits few) in
    record {
      fit = h.fit;
      memory = h.memory;
      globals = λ i g at c. h.keeps i (start_globals P args i g at c);
      locals = λ i l at c.
          subst (λ n. IsSome (cell_at (make_locals P site (locals_of f.proc.body) s).memory (n + i))) (sym (ap (λ (g : Frame). g.permit.first) is))
          (locals_cells P (locals_of f.proc.body) l c site s i at);
    }

pub start_good : (c : Core) (args : List Arg) (site : ℕ) (w : World) → IsSoundProgram c.program.now → first_limit c.program.now ≡ None → IsWritten c.program.now → All HasFewBytes args →
    slice_get c.program.now.procs c.running.number ≡ Some c.running.proc.now → fit c.running.proc.now.formals args ≡ true →
    frame c.running ≡ entered c.program.now c.running.number c.running.proc.now (start_values c.program.now args) (start_memory c.program.now args) →
    length (start_memory c.program.now args) ≤ 2 ^ 62 →
    state c.running.proc.now c.store
    ≡ make_locals c.program.now site (locals_of c.running.proc.now.body) (record { vars = (frame c.running).formals; memory = start_memory c.program.now args; world = w; output = [] }) →
    IsRoom c.running.proc.now c.store.room → c.waiting.items ≡ [] → IsGood c
start_good c args site w sound limits written few there mains is short first room none = record {
  program = sound;
  limits = limits;
  written = written;
  active = record { proc = there; first = subst (λ (f : Frame). f.permit.first ≤ 2 ^ 62) (sym is) short };
  room = room;
  state = subst (λ (s : State). IsState c.program.now (frame c.running) s) (sym first)
      (first_is_sound c.program.now (frame c.running) args site w written limits few (all_at IsProc c.program.now.procs c.running.number c.running.proc.now written.procs there) mains is);
  waiting = none_wait c.program.now c.store.room.memory c.waiting.items none;
}
