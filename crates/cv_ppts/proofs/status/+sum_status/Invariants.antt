use Rattle.std.proofs.Common.{length}
use Rattle.cv_ppts.proofs.status.+sum_status.Given as goal

abbrev pub decreases-sum_status : goal.decreases-sum_status
decreases-sum_status g l = length l.parts.now
