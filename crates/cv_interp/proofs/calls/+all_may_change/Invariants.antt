use Rattle.std.proofs.Common.{length}
use Rattle.cv_interp.proofs.calls.+all_may_change.Given as goal

abbrev pub decreases-all_may_change : goal.decreases-all_may_change
decreases-all_may_change l = length l.objects.now
