use Rattle.std.proofs.Common.{ap, subst, sym, ◌∙◌, IsTrue, ◌↔◌}
use Rattle.cv_ppts.specs.Numbers.{codes_of}
use Rattle.cv_ppts.specs.Targets.{AreClosed}
use Rattle.std.specs.Option.{option_copied}
use Rattle.cv_ppts.proofs.Closing.{closed_none, closed_some, room_some}
use Rattle.cv_ppts.proofs.closed.targets_closed.Goals as goal

pub scope_of-requires : goal.scope_of-requires
scope_of-requires c = room_some c.args.p.now c.args.proc c.in-Some.f.now _ _ (sym c.proc_at.ensures.value ∙ ap option_copied c.in-Some.is) c.as_slice.ensures c.requires

pub returns-in-None : goal.returns-in-None
returns-in-None c = record { closed = closed_none c.args.p.now c.args.proc c.args.case.now.codes (codes_of c.args.targets.now.sets) (sym c.proc_at.ensures.value ∙ ap option_copied c.in-None.is) }

pub returns-in-Some : goal.returns-in-Some
returns-in-Some c =
    record {
      closed = closed_some c.args.p.now c.args.proc c.in-Some.f.now _ _ _ _ c.is_closed.result (sym c.proc_at.ensures.value ∙ ap option_copied c.in-Some.is) c.as_slice.ensures (ap codes_of c.as_slice-in-Some.ensures)
          (subst (λ s. IsTrue c.is_closed.result ↔ AreClosed s (codes_of c.as_slice-in-Some.result.now)) c.scope_of.ensures c.is_closed.ensures);
    }
