use Rattle.std.proofs.Common.{length}
use Rattle.cv_interp.proofs.items.+looked.Given as goal

abbrev pub decreases-looked : goal.decreases-looked
decreases-looked l = length l.vars.now
