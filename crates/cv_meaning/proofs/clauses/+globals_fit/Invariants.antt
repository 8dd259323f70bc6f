use Rattle.std.proofs.Common.{length}
use Rattle.cv_meaning.proofs.clauses.+globals_fit.Given as goal

abbrev pub decreases-globals_fit : goal.decreases-globals_fit
decreases-globals_fit l = length l.listed.now
