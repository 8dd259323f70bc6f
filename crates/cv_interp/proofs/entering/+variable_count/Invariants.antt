use Rattle.std.proofs.Common.{length}
use Rattle.cv_interp.proofs.entering.+variable_count.Given as goal

abbrev pub decreases-variable_count : goal.decreases-variable_count
decreases-variable_count l = length l.locals.now
