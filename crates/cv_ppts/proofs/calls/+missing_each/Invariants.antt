use Rattle.std.proofs.Common.{length}
use Rattle.cv_ppts.proofs.calls.+missing_each.Given as goal

abbrev pub decreases-missing_each : goal.decreases-missing_each
decreases-missing_each l = length l.gives.now
