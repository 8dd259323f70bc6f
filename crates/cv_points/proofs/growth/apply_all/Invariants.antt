use Rattle.cv_points.specs.Growing.{Grows, Keeps}
use Rattle.cv_points.specs.declared.rules.Rule.{Rule}
use Rattle.cv_points.proofs.Grown.{Passed}
use Rattle.cv_points.proofs.growth.apply_all.Given as goal

abbrev pub invariant-loop-rule : goal.invariant-loop-rule
invariant-loop-rule l = Grows l.initial.sets.items l.sets.items l.more (λ R. Passed (λ (r : Rule). Keeps l.cells R r) l.rules l.rule-index)
