use Rattle.std.proofs.Common.{length}
use Rattle.cv_interp.proofs.calls.+none_literal.Given as goal

abbrev pub decreases-none_literal : goal.decreases-none_literal
decreases-none_literal l = length l.objects.now
