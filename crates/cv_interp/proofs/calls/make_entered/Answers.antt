use Rattle.std.proofs.Common.{◌≡◌, sym, ap, subst, ◌∙◌, ℕ}
use Rattle.cv_core.specs.Names.{local_site, locals_of}
use Rattle.cv_meaning.specs.Call.{Enters}
use Rattle.cv_meaning.specs.Look.{look}
use Rattle.cv_meaning.specs.Memory.{Memory}
use Rattle.cv_meaning.specs.State.{Frame, State, make_locals}
use Rattle.cv_interp.specs.declared.store.Room.{Room}
use Rattle.cv_interp.specs.Entered.{IsRoom, arrived}
use Rattle.cv_interp.specs.Seen.{frame, left, state, state_in}
use Rattle.cv_interp.proofs.Admitted.{enters, same_output}
use Rattle.cv_interp.proofs.Bound.{are_variables}
use Rattle.cv_interp.proofs.calls.make_entered.Goals as goal

pub furnished-requires-clause-variables : goal.furnished-requires-clause-variables
furnished-requires-clause-variables c = are_variables c.args.g.now

pub returns-clause-ok : goal.returns-clause-ok
returns-clause-ok c =
    let e : Frame = arrived c.args.number c.args.g.now c.args.guest c.args.s.now.room.memory in
    let start : State = record (state c.args.a.now.proc.now c.args.s.now) { vars = look c.args.guest.formals } in
    let inner : state c.args.g.now (record c.args.s.now { room = c.replace-vars.new.dest }) ≡ make_locals c.args.p.now c.args.plan.now.site (locals_of c.args.g.now.body) start =
    ap (state_in c.args.g.now c.args.s.now.world c.args.s.now.output.items) c.replace-vars.ensures.after
    ∙ same_output c.args.p.now c.args.g.now c.args.s.now.world c.args.s.now.output.items c.in_ok-inner.inner c.args.plan.now.site (locals_of c.args.g.now.body) (look c.args.guest.formals)
    c.args.s.now.room.memory (left c.args.s.now.world c.args.s.now.room.taken) c.in_ok-inner.ensures.state in
    let site : c.args.plan.now.site ≡ local_site c.args.p.now c.args.number = c.requires.site in (
      enters c.args.p.now (frame c.args.a.now) e c.args.place.now.k c.args.place.now.into.now c.args.g.now.body (state c.args.a.now.proc.now c.args.s.now) c.requires.body
          ∙ ap (Enters e) (ap (λ (n : ℕ). make_locals c.args.p.now n (locals_of c.args.g.now.body) start) (sym site) ∙ sym inner)
          ∙ ap (λ (m : Memory). Enters (record e { entry = m }) (state c.args.g.now (record c.args.s.now { room = c.replace-vars.new.dest })))
          (sym (ap (λ (r : Room). r.memory) c.replace-vars.ensures.value)),
      ap (λ (r : Room). r.vars.items) c.replace-vars.ensures.value,
      subst (λ (r : Room). IsRoom c.args.g.now r) (sym c.replace-vars.ensures.after) c.in_ok-inner.ensures.room,
    )
