use Rattle.std.proofs.Common.{◌≡◌, ◌++◌, false, length, map}
use Rattle.cv_points.proofs.places.flag_literals.Given as goal

abbrev pub invariant-loop-rest : goal.invariant-loop-rest
invariant-loop-rest l = l.flags.items ++ map (λ x. false) l.rest ≡ l.initial.flags.items ++ map (λ x. false) l.literals

abbrev pub decreases-loop-rest : goal.decreases-loop-rest
decreases-loop-rest l = length l.rest
