use Rattle.std.proofs.Common.{length}
use Rattle.cv_interp.proofs.begin.+make_args.Given as goal

abbrev pub decreases-make_args : goal.decreases-make_args
decreases-make_args l = length l.args.now
