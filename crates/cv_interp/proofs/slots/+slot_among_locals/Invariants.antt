use Rattle.std.proofs.Common.{length}
use Rattle.cv_interp.proofs.slots.+slot_among_locals.Given as goal

abbrev pub decreases-slot_among_locals : goal.decreases-slot_among_locals
decreases-slot_among_locals l = length l.locals.now
