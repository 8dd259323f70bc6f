use Rattle.std.proofs.Common.{length}
use Rattle.cv_check.proofs.walk.+statements_shown.Given as goal

abbrev pub decreases-statements_shown : goal.decreases-statements_shown
decreases-statements_shown l = length l.stmts.now
