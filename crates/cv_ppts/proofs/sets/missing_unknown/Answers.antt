use Rattle.std.proofs.Common.{ℕ, ◌+◌}
use Rattle.cv_ppts.specs.Numbers.{codes_of}
use Rattle.cv_ppts.specs.declared.code.Code.TheVariants as code
use Rattle.cv_ppts.specs.Plain.{AreUnknown, HasCode, Sets}
use Rattle.cv_ppts.proofs.Lacked.{lacks_part, number_all, number_passed}
use Rattle.cv_ppts.proofs.sets.missing_unknown.Goals as goal

pub returns-in-Some : goal.returns-in-Some
returns-in-Some c =
    lacks_part (codes_of c.args.sets.now) (λ (R : Sets). HasCode R (c.args.first + c.loop-number.number) (code.Unknown)) (λ (R : Sets). AreUnknown R c.args.first c.args.count) _ _
    (λ R within w. w c.loop-number.number c.loop-number-test.true) c.in-Some.ensures

pub loop-number-preserved : goal.loop-number-preserved
loop-number-preserved c = number_passed (λ (k : ℕ). HasCode (codes_of c.args.sets.now) (c.args.first + k) (code.Unknown)) c.loop-number.number c.loop-number.invariant c.in-None.ensures

pub returns : goal.returns
returns c = number_all (λ (k : ℕ). HasCode (codes_of c.args.sets.now) (c.args.first + k) (code.Unknown)) c.loop-number.number c.args.count c.loop-number-test.false c.loop-number.invariant
