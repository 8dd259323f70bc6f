use Rattle.std.proofs.Common.{◌≡◌, sym, ap, subst, ◌∙◌, ◌+◌, ◌<◌, ◌^◌, suc, arith, Ok}
use Rattle.cv_meaning.specs.declared.memory.Ptr.TheVariants.{At}
use Rattle.cv_meaning.specs.declared.memory.Value.{Value}
use Rattle.cv_meaning.specs.declared.memory.Value.TheVariants as value
use Rattle.cv_meaning.specs.State.{State, address, with_var}
use Rattle.cv_meaning.specs.Step.{step}
use Rattle.cv_interp.specs.declared.store.Line.{Line}
use Rattle.cv_interp.specs.Plans.{home_of, line_of, object_at, own_place}
use Rattle.cv_interp.specs.Seen.{frame, state}
use Rattle.cv_interp.proofs.Planned.{address_is, own_small}
use Rattle.cv_interp.proofs.steps.step.Goals as goal

pub named-requires : goal.named-requires
named-requires c =
    let home : c.args.line.now.home ≡ home_of c.args.p.now c.args.a.now.proc.now c.in-Address.object =
    ap (λ (l : Line). l.home) c.requires.line ∙ ap (λ f. (line_of c.args.p.now c.args.a.now.proc.now f).home) c.in-Address.is in
    subst (λ h. c.args.a.now.permit.first + own_place h < 2 ^ 64) (sym home) (own_small c.args.p.now c.args.a.now c.in-Address.object c.requires.room)

pub returns-in-Address : goal.returns-in-Address
unfolding step
returns-in-Address c =
    let s : State = state c.args.a.now.proc.now c.args.s.now in
    let pointer : Value = value.Ptr (At (address c.args.p.now (frame c.args.a.now) c.in-Address.object) 0) in
    let home : c.args.line.now.home ≡ home_of c.args.p.now c.args.a.now.proc.now c.in-Address.object =
    ap (λ (l : Line). l.home) c.requires.line ∙ ap (λ f. (line_of c.args.p.now c.args.a.now.proc.now f).home) c.in-Address.is in
    let next : suc c.args.k ≡ c.held-in-Address.result = omega arith in
    let there : with_var c.in-Address.x pointer s ≡ state c.args.a.now.proc.now c.held-in-Address.new.s =
    ap (λ v. with_var c.in-Address.x v s) (sym (c.named.ensures ∙ ap (λ h. value.Ptr (At (object_at c.args.a.now.permit.first h) 0)) home ∙ ap (λ o. value.Ptr (At o 0)) (address_is c.args.p.now (frame c.args.a.now) c.in-Address.object))) ∙ sym c.held-in-Address.ensures.state in (
      ap (λ f. step c.args.p.now (frame c.args.a.now) c.args.k f s) c.in-Address.is ∙ ap (λ n. Ok (n, with_var c.in-Address.x pointer s)) next
          ∙ ap (λ t. Ok (c.held-in-Address.result, t)) there,
      c.held-in-Address.ensures.kept,
    )
