use Rattle.std.proofs.Common.{length}
use Rattle.cv_core.proofs.names.+kind_in_locals.Given as goal

abbrev pub decreases-kind_in_locals : goal.decreases-kind_in_locals
decreases-kind_in_locals l = length l.locals.now
