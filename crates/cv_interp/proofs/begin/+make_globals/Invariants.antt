use Rattle.std.proofs.Common.{length}
use Rattle.cv_interp.proofs.begin.+make_globals.Given as goal

abbrev pub decreases-make_globals : goal.decreases-make_globals
decreases-make_globals l = length l.globals.now
