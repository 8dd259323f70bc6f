use Rattle.std.proofs.Common.{length}
use Rattle.cv_interp.proofs.entering.+make_locals.Given as goal

abbrev pub decreases-make_locals : goal.decreases-make_locals
decreases-make_locals l = length l.locals.now
