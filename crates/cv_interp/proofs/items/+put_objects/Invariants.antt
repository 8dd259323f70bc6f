use Rattle.std.proofs.Common.{length}
use Rattle.cv_interp.proofs.items.+put_objects.Given as goal

abbrev pub decreases-put_objects : goal.decreases-put_objects
decreases-put_objects l = length l.items.now
