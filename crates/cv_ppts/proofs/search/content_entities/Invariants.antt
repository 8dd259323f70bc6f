use Rattle.std.proofs.Common.{◌≡◌, ◌++◌, length}
use Rattle.cv_ppts.specs.Entities.{content_entities}
use Rattle.cv_ppts.proofs.search.content_entities.Given as goal

abbrev pub invariant-loop-rest : goal.invariant-loop-rest
invariant-loop-rest l = l.entities.items ++ content_entities l.s.p.now l.s.sets.now l.rest ≡ content_entities l.s.p.now l.s.sets.now l.blocks

abbrev pub decreases-loop-rest : goal.decreases-loop-rest
decreases-loop-rest l = length l.rest
