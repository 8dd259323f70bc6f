use Rattle.std.proofs.Common.{length}
use Rattle.cv_ppts.proofs.calls.+missing_walked.Given as goal

abbrev pub decreases-missing_walked : goal.decreases-missing_walked
decreases-missing_walked l = length l.rest.now
