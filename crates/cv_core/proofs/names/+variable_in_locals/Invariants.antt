use Rattle.std.proofs.Common.{length}
use Rattle.cv_core.proofs.names.+variable_in_locals.Given as goal

abbrev pub decreases-variable_in_locals : goal.decreases-variable_in_locals
decreases-variable_in_locals l = length l.locals.now
