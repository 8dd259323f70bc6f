use Rattle.std.proofs.Common.{length}
use Rattle.cv_interp.proofs.begin.+fit.Given as goal

abbrev pub decreases-fit : goal.decreases-fit
decreases-fit l = length l.formals.now
