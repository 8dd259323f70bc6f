use Rattle.std.proofs.Common.{length}
use Rattle.cv_core.proofs.shape.kinds.+formals_take.Given as goal

abbrev pub decreases-formals_take : goal.decreases-formals_take
decreases-formals_take l = length l.args.now
