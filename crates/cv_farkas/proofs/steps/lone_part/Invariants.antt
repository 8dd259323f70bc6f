use Rattle.std.proofs.Common.{ℕ, ◌<◌, [], ◌∷◌}
use Rattle.cv_farkas.specs.Steps.{HoldsBy}
use Rattle.cv_farkas.proofs.steps.lone_part.Given as goal

abbrev pub invariant-loop-number : goal.invariant-loop-number
invariant-loop-number l = (i : ℕ) → i < l.number → ¬ (HoldsBy l.hyps l.goal 1 ((i, 1) ∷ []))
