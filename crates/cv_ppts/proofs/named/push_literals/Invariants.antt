use Rattle.std.proofs.Common.{◌≡◌, ◌++◌, length, map}
use Rattle.cv_ppts.specs.Entities.{literal_entity}
use Rattle.cv_ppts.proofs.named.push_literals.Given as goal

abbrev pub invariant-loop-rest : goal.invariant-loop-rest
invariant-loop-rest l = l.entities.items ++ map (literal_entity l.p) l.rest ≡ l.initial.entities.items ++ map (literal_entity l.p) l.numbers

abbrev pub decreases-loop-rest : goal.decreases-loop-rest
decreases-loop-rest l = length l.rest
