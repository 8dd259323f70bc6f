use Rattle.std.proofs.Common.{◌≡◌, ◌++◌, length}
use Rattle.cv_ppts.specs.Entities.{distinct, distinct_behind}
use Rattle.cv_ppts.proofs.named.distinct.Given as goal

abbrev pub invariant-loop-rest : goal.invariant-loop-rest
invariant-loop-rest l = l.seen.items ++ distinct_behind l.seen.items l.rest ≡ distinct l.numbers

abbrev pub decreases-loop-rest : goal.decreases-loop-rest
decreases-loop-rest l = length l.rest
