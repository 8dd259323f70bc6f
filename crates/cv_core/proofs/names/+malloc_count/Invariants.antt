use Rattle.std.proofs.Common.{length}
use Rattle.cv_core.proofs.names.+malloc_count.Given as goal

abbrev pub decreases-malloc_count : goal.decreases-malloc_count
decreases-malloc_count l = length l.stmts.now
