use Rattle.std.proofs.Common.{length}
use Rattle.cv_interp.proofs.begin.+make_literals.Given as goal

abbrev pub decreases-make_literals : goal.decreases-make_literals
decreases-make_literals l = length l.literals.now
