use Rattle.std.proofs.Common.{length}
use Rattle.cv_interp.proofs.slots.+slot_among_formals.Given as goal

abbrev pub decreases-slot_among_formals : goal.decreases-slot_among_formals
decreases-slot_among_formals l = length l.formals.now
