use Rattle.std.proofs.Common.{◌≡◌, ◌++◌, length}
use Rattle.cv_ppts.specs.Entities.{formal_entities}
use Rattle.cv_ppts.proofs.named.push_formals.Given as goal

abbrev pub invariant-loop-rest : goal.invariant-loop-rest
invariant-loop-rest l = l.entities.items ++ formal_entities l.sets l.place l.rest ≡ l.initial.entities.items ++ formal_entities l.sets l.first l.formals

abbrev pub decreases-loop-rest : goal.decreases-loop-rest
decreases-loop-rest l = length l.rest
