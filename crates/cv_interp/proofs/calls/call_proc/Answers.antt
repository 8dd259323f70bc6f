use Rattle.std.proofs.Common.{sym, ap, ◌∙◌, List, ℕ, Ok, refl}
use Rattle.std.proofs.lemmas.Result.{IfOk-weaker}
use Rattle.cv_meaning.specs.Call.{entered, permitted}
use Rattle.cv_meaning.specs.State.{Frame}
use Rattle.cv_interp.specs.Entered.{arrived}
use Rattle.cv_interp.specs.Seen.{frame, state}
use Rattle.cv_interp.proofs.Admitted.{called_as, calls_barred, calls_on, calls_refused}
use Rattle.cv_core.specs.Within.{few_globals, few_literals}
use Rattle.cv_interp.proofs.Limited.{are_few}
use Rattle.cv_interp.proofs.calls.call_proc.Goals as goal

pub may_enter-requires-clause-few : goal.may_enter-requires-clause-few
may_enter-requires-clause-few c = are_few c.args.p.now c.args.number c.args.g.now c.requires.limits c.requires.there

pub asked-requires-clause-outside : goal.asked-requires-clause-outside
asked-requires-clause-outside c = (c.requires.sound.headings c.args.number c.args.g.now c.requires.there).outside

pub guest_of-requires-clause-globals : goal.guest_of-requires-clause-globals
guest_of-requires-clause-globals c = few_globals c.args.p.now c.requires.limits

pub guest_of-requires-clause-literals : goal.guest_of-requires-clause-literals
guest_of-requires-clause-literals c = few_literals c.args.p.now c.requires.limits

pub returns-then-not-may_enter-clause-ok : goal.returns-then-not-may_enter-clause-ok
returns-then-not-may_enter-clause-ok c = (
  calls_refused c.args.p.now (frame c.args.a.now) (arrived c.args.number c.args.g.now c.in_ok-guest.guest c.args.s.now.room.memory)
      (entered c.args.p.now c.args.number c.args.g.now c.args.site.now.args.now c.args.s.now.room.memory) c.args.site.now.k c.args.site.now.into.now (state c.args.a.now.proc.now c.args.s.now)
      (c.in_ok-guest.ensures.arrived c.args.number) (let t = c.if-not-may_enter.true in sym (c.may_enter.ensures c.args.number) ∙ t),
  record { room = refl; world = refl; output = refl },
)

pub returns-in-Err-clause-ok : goal.returns-in-Err-clause-ok
returns-in-Err-clause-ok c =
    let e : Frame = arrived c.args.number c.args.g.now c.in_ok-guest.guest c.args.s.now.room.memory in (
      calls_barred c.args.p.now (frame c.args.a.now) e
          (entered c.args.p.now c.args.number c.args.g.now c.args.site.now.args.now c.args.s.now.room.memory) c.args.site.now.k c.args.site.now.into.now (state c.args.a.now.proc.now c.args.s.now)
          c.in-Err.kind (c.in_ok-guest.ensures.arrived c.args.number) (let t = c.if-not-may_enter.false in sym (c.may_enter.ensures c.args.number) ∙ t)
          (ap (λ (os : List ℕ). permitted {A = Unit {0}} c.args.a.now.permit os (Ok tt)) (sym c.as_slice.ensures) ∙ sym c.permitted.ensures ∙ c.in-Err.is),
      record { room = refl; world = refl; output = refl },
    )

pub returns-in-None-clause-ok : goal.returns-in-None-clause-ok
returns-in-None-clause-ok c =
    let e : Frame = arrived c.args.number c.args.g.now c.in_ok-guest.guest c.args.s.now.room.memory in
    let same = calls_on c.args.p.now (frame c.args.a.now) e
    (entered c.args.p.now c.args.number c.args.g.now c.args.site.now.args.now c.args.s.now.room.memory) c.args.site.now.k c.args.site.now.into.now (state c.args.a.now.proc.now c.args.s.now)
    (c.in_ok-guest.ensures.arrived c.args.number) (let t = c.if-not-may_enter.false in sym (c.may_enter.ensures c.args.number) ∙ t)
    (ap (λ (os : List ℕ). permitted {A = Unit {0}} c.args.a.now.permit os (Ok tt)) (sym c.as_slice.ensures) ∙ sym c.permitted.ensures ∙ c.in-Ok.is) in
    IfOk-weaker c.asked.result _ _ (λ r h. called_as c.args.a.now c.args.site.now.k _ _ c.args.s.now r _ same (h c.args.number)) c.asked.ensures.ok

pub returns-clause-ok : goal.returns-clause-ok
returns-clause-ok c =
    let e : Frame = arrived c.args.number c.args.g.now c.in_ok-guest.guest c.args.s.now.room.memory in
    let same = calls_on c.args.p.now (frame c.args.a.now) e
    (entered c.args.p.now c.args.number c.args.g.now c.args.site.now.args.now c.args.s.now.room.memory) c.args.site.now.k c.args.site.now.into.now (state c.args.a.now.proc.now c.args.s.now)
    (c.in_ok-guest.ensures.arrived c.args.number) (let t = c.if-not-may_enter.false in sym (c.may_enter.ensures c.args.number) ∙ t)
    (ap (λ (os : List ℕ). permitted {A = Unit {0}} c.args.a.now.permit os (Ok tt)) (sym c.as_slice.ensures) ∙ sym c.permitted.ensures ∙ c.in-Ok.is) in
    IfOk-weaker c.make_entered.result _ _ (λ r h. called_as c.args.a.now c.args.site.now.k _ _ c.args.s.now r _ same h) c.make_entered.ensures.ok
