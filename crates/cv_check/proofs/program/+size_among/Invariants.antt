use Rattle.std.proofs.Common.{length}
use Rattle.cv_check.proofs.program.+size_among.Given as goal

abbrev pub decreases-size_among : goal.decreases-size_among
decreases-size_among l = length l.locals.now
