use Rattle.std.proofs.Common.{length}
use Rattle.cv_interp.proofs.entering.+bind.Given as goal

abbrev pub decreases-bind : goal.decreases-bind
decreases-bind l = length l.formals.now
