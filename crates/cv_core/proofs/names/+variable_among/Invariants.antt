use Rattle.std.proofs.Common.{length}
use Rattle.cv_core.proofs.names.+variable_among.Given as goal

abbrev pub decreases-variable_among : goal.decreases-variable_among
decreases-variable_among l = length l.formals.now
