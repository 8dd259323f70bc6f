use Rattle.std.proofs.Common.{ℕ, ◌≡◌, ◌≤◌, Some, subst, sym}
use Rattle.cv_ppts.specs.Numbers.{codes_of}
use Rattle.cv_ppts.specs.Plain.{Sets}
use Rattle.cv_ppts.specs.Targets.{AreLost, IsLost}
use Rattle.cv_ppts.proofs.Called.{as_long, lost_all}
use Rattle.cv_ppts.proofs.Lacked.{lacks_part, number_passed}
use Rattle.cv_ppts.proofs.calls.missing_losses.Goals as goal

pub returns-in-Some : goal.returns-in-Some
returns-in-Some c =
    lacks_part (codes_of c.args.sets.now) (λ (R : Sets). (c.args.into ≡ Some c.loop-place.place → ⊥) → IsLost R c.args.target c.loop-place.place) (λ (R : Sets). AreLost R c.args.target c.args.into) _ _
    (λ R within w. w c.loop-place.place) c.in-Some.ensures

pub loop-place-preserved : goal.loop-place-preserved
loop-place-preserved c = number_passed (λ (k : ℕ). (c.args.into ≡ Some k → ⊥) → IsLost (codes_of c.args.sets.now) c.args.target k) c.loop-place.place c.loop-place.invariant c.in-None.ensures

pub returns : goal.returns
returns c = lost_all (codes_of c.args.sets.now) c.args.target c.args.into c.loop-place.place (subst (λ n. n ≤ c.loop-place.place) (sym (as_long c.args.sets.now)) c.loop-place-test.false) c.loop-place.invariant
