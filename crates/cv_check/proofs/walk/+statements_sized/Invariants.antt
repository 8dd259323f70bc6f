use Rattle.std.proofs.Common.{length}
use Rattle.cv_check.proofs.walk.+statements_sized.Given as goal

abbrev pub decreases-statements_sized : goal.decreases-statements_sized
decreases-statements_sized l = length l.stmts.now
