use Rattle.std.proofs.Common.{ℕ, ◌<◌, ◌≡◌, Some}
use Rattle.cv_ppts.specs.Numbers.{codes_of}
use Rattle.cv_ppts.specs.Targets.{IsLost}
use Rattle.cv_ppts.proofs.calls.missing_losses.Given as goal

abbrev pub invariant-loop-place : goal.invariant-loop-place
invariant-loop-place l = (k : ℕ) → k < l.place → (l.into ≡ Some k → ⊥) → IsLost (codes_of l.sets) l.target k
