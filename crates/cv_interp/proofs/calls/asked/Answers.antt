use Rattle.std.proofs.Common.{sym, ap, subst, ◌∙◌, suc, Some, ℤ, FitsSigned, w32, w64, rules}
use Rattle.std.proofs.lemmas.Int.{to_z-of_z}
use Rattle.cv_meaning.specs.declared.memory.Value.TheVariants as value
use Rattle.cv_meaning.specs.declared.memory.World.{World}
use Rattle.cv_meaning.specs.Call.{Goes, give}
use Rattle.cv_meaning.specs.State.{State}
use Rattle.cv_interp.specs.Entered.{arrived}
use Rattle.cv_interp.specs.Seen.{frame, state}
use Rattle.cv_interp.proofs.Admitted.{asks}
use Rattle.cv_interp.proofs.calls.asked.Goals as goal

pub returns-clause-ok : goal.returns-clause-ok
returns-clause-ok c = λ i.
    let tried = c.in-Ok.ensures in
    let fits : FitsSigned w32 c.in-Ok.answer = subst (λ (z : ℤ). FitsSigned w32 z) (sym tried.1) tried.0 in
    let wide : FitsSigned w64 c.extern_answer.result = search rules in
    let given = simp to_z-of_z at c.given.ensures.state in (
      asks c.args.p.now (frame c.args.a.now) (arrived i c.args.g.now c.args.guest.now c.args.s.now.room.memory) c.args.site.now.k c.args.site.now.into.now (state c.args.a.now.proc.now c.args.s.now)
          c.in-Ok.answer c.requires.outside c.requires.none (tried.1 ∙ to_z-of_z w64 c.extern_answer.result wide ∙ c.extern_answer.ensures)
          ∙ ap (λ (s : State). Goes (suc c.args.site.now.k) s)
          (sym (given
          ∙ ap (λ (w : World). give c.args.p.now (frame c.args.a.now) c.args.site.now.into.now (Some (value.Int c.in-Ok.answer)) (record (state c.args.a.now.proc.now c.args.s.now) { world = w }))
          c.after_answer-s.ensures)),
      c.given.ensures.room,
    )
