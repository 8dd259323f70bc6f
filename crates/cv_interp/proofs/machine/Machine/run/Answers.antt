use Rattle.std.proofs.Common.{rules, ◌≡◌, ap, refl, sym, ◌∙◌, ℕ, ◌+◌, w32, to_z, of_z, arith}
use Rattle.cv_meaning.specs.declared.ends.RunEnd.TheVariants as how
use Rattle.cv_interp.specs.Level.{Stack}
use Rattle.cv_interp.specs.Machine.{end}
use Rattle.cv_interp.proofs.Leads.{end_same}
use Rattle.cv_interp.proofs.Running.{ends_at, error_now, how_ended, how_now, other_error, other_returned, returned_now, stands_at}
use Rattle.cv_interp.proofs.machine.Machine.run.Goals as goal

pub returns-in-Some-clause-ended : goal.returns-in-Some-clause-ended
returns-in-Some-clause-ended c =
    c.run_end_of.ensures ∙ sym (how_ended c.args.self.now c.in-Some.end c.args.steps (ap (λ (m : Stack). m.ended) (sym c.self.view_is) ∙ c.in-Some.is))

pub returns-in-Some-clause-stands : goal.returns-in-Some-clause-stands
returns-in-Some-clause-stands c = λ n. end_same c.args.self.now c.in-Some.end n (c.args.steps + n) (ap (λ (m : Stack). m.ended) (sym c.self.view_is) ∙ c.in-Some.is)

zero_more : (n : ℕ) → n ≡ 0 + n
zero_more n = omega arith

pub loop-i-init : goal.loop-i-init
loop-i-init c = record {
  stands = λ n. ap (end c.args.self.now) (zero_more n);
  on = how_now c.args.self.now (ap (λ (m : Stack). m.ended) (sym c.self.view_is) ∙ c.in_default.is);
}

pub returns-in-Error-clause-ended : goal.returns-in-Error-clause-ended
returns-in-Error-clause-ended c =
    sym (ends_at c.args.self.now c.loop-i.self c.step.new.self c.loop-i.i c.args.steps (how.Error c.in-Error.kind c.in-Error.proc c.in-Error.line) c.loop-i-test.true c.loop-i.invariant.stands c.in_ok-step.ensures.stands
    (error_now (end c.loop-i.self 1).how c.in-Error.kind c.in-Error.proc c.in-Error.line (sym c.in-Error.is ∙ c.in_ok-step.ensures.turn))
    (other_error _ c.in-Error.kind c.in-Error.proc c.in-Error.line refl))

pub returns-in-Error-clause-stands : goal.returns-in-Error-clause-stands
returns-in-Error-clause-stands c = λ n.
    stands_at c.args.self.now c.loop-i.self c.step.new.self c.loop-i.i c.args.steps n (how.Error c.in-Error.kind c.in-Error.proc c.in-Error.line) c.loop-i-test.true c.loop-i.invariant.stands c.in_ok-step.ensures.stands
    (error_now (end c.loop-i.self 1).how c.in-Error.kind c.in-Error.proc c.in-Error.line (sym c.in-Error.is ∙ c.in_ok-step.ensures.turn))
    (other_error _ c.in-Error.kind c.in-Error.proc c.in-Error.line refl)

pub returns-in-Returned-clause-ended : goal.returns-in-Returned-clause-ended
returns-in-Returned-clause-ended c =
    let same : how.Returned (to_z w32 (of_z w32 c.in-Returned.z)) ≡ how.Returned c.in-Returned.z = search rules in
    same ∙ sym (ends_at c.args.self.now c.loop-i.self c.step.new.self c.loop-i.i c.args.steps (how.Returned c.in-Returned.z) c.loop-i-test.true c.loop-i.invariant.stands c.in_ok-step.ensures.stands
    (returned_now (end c.loop-i.self 1).how c.in-Returned.z (sym c.in-Returned.is ∙ c.in_ok-step.ensures.turn))
    (other_returned _ c.in-Returned.z refl))

pub returns-in-Returned-clause-stands : goal.returns-in-Returned-clause-stands
returns-in-Returned-clause-stands c = λ n.
    stands_at c.args.self.now c.loop-i.self c.step.new.self c.loop-i.i c.args.steps n (how.Returned c.in-Returned.z) c.loop-i-test.true c.loop-i.invariant.stands c.in_ok-step.ensures.stands
    (returned_now (end c.loop-i.self 1).how c.in-Returned.z (sym c.in-Returned.is ∙ c.in_ok-step.ensures.turn))
    (other_returned _ c.in-Returned.z refl)
