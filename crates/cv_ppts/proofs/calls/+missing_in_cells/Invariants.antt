use Rattle.std.proofs.Common.{length}
use Rattle.cv_ppts.proofs.calls.+missing_in_cells.Given as goal

abbrev pub decreases-missing_in_cells : goal.decreases-missing_in_cells
decreases-missing_in_cells l = length l.items.now
