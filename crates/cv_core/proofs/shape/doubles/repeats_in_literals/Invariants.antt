use Rattle.std.proofs.Common.{◌≡◌, length}
use Rattle.cv_core.specs.Doubles.{repeats}
use Rattle.cv_core.proofs.shape.doubles.repeats_in_literals.Given as goal

abbrev pub invariant-loop-rest : goal.invariant-loop-rest
invariant-loop-rest l = repeats (λ x. x.name) l.rest ≡ repeats (λ x. x.name) l.literals

abbrev pub decreases-loop-rest : goal.decreases-loop-rest
decreases-loop-rest l = length l.rest
