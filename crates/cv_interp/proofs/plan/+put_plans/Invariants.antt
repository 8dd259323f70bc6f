use Rattle.std.proofs.Common.{length}
use Rattle.cv_interp.proofs.plan.+put_plans.Given as goal

abbrev pub decreases-put_plans : goal.decreases-put_plans
decreases-put_plans l = length l.procs.now
