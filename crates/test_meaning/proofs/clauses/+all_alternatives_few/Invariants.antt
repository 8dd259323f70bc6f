use Rattle.std.proofs.Common.{length}
use Rattle.test_meaning.proofs.clauses.+all_alternatives_few.Given as goal

abbrev pub decreases-all_alternatives_few : goal.decreases-all_alternatives_few
decreases-all_alternatives_few l = length l.gives.now
