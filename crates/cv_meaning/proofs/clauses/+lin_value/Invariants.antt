use Rattle.std.proofs.Common.{length}
use Rattle.cv_meaning.proofs.clauses.+lin_value.Given as goal

abbrev pub decreases-lin_value : goal.decreases-lin_value
decreases-lin_value l = length l.parts.now
