use Rattle.std.proofs.Common.{◌≡◌, refl}
use Rattle.cv_ppts.specs.declared.code.Code.{Code}
use Rattle.cv_ppts.proofs.Lacked.{all_passed}
use Rattle.cv_ppts.proofs.sets.contains.Goals as goal

pub returns : goal.returns
returns c = λ m. all_passed (λ (x : Code). x ≡ c.args.code → ⊥) c.args.set.now c.loop-number.number-index c.loop-number-test.false c.loop-number.invariant c.args.code m refl
