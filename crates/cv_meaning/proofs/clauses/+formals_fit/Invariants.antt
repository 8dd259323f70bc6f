use Rattle.std.proofs.Common.{length}
use Rattle.cv_meaning.proofs.clauses.+formals_fit.Given as goal

abbrev pub decreases-formals_fit : goal.decreases-formals_fit
decreases-formals_fit l = length l.formals.now
