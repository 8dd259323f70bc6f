use Rattle.std.proofs.Common.{◌≡◌, ◌++◌, length}
use Rattle.cv_ppts.specs.Walk.{meet}
use Rattle.cv_ppts.proofs.blocks.meet.Given as goal

abbrev pub invariant-loop-rest : goal.invariant-loop-rest
invariant-loop-rest l = l.common.items ++ meet l.rest l.others ≡ meet l.sites l.others

abbrev pub decreases-loop-rest : goal.decreases-loop-rest
decreases-loop-rest l = length l.rest
