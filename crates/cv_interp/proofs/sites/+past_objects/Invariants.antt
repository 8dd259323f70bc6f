use Rattle.std.proofs.Common.{length}
use Rattle.cv_interp.proofs.sites.+past_objects.Given as goal

abbrev pub decreases-past_objects : goal.decreases-past_objects
decreases-past_objects l = length l.procs.now
