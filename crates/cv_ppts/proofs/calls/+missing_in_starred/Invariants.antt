use Rattle.std.proofs.Common.{ℕ, ℤ, ◌<◌, length, slice_index_or}
use Rattle.cv_ppts.specs.Numbers.{code_of, codes_of}
use Rattle.cv_ppts.specs.Keys.{setting}
use Rattle.cv_ppts.specs.Lacking.{CellsPicked}
use Rattle.cv_ppts.specs.Picked.{pick_at}
use Rattle.cv_ppts.proofs.calls.+missing_in_starred.Given as goal

abbrev pub decreases-missing_in_starred : goal.decreases-missing_in_starred
decreases-missing_in_starred l = length l.rest.now

abbrev pub invariant-loop-number : goal.invariant-loop-number
invariant-loop-number l =
    (k : ℕ) (d : ℤ) → k < l.number-index → CellsPicked (setting l.s) (codes_of l.sets) l.target l.into l.g (pick_at l.formals) l.cell (code_of (slice_index_or l.number-items k d)) l.cells
