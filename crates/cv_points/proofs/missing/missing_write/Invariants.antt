use Rattle.std.proofs.Common.{ℕ, ◌<◌, slice_index_or}
use Rattle.cv_points.specs.Cursors.{IsCursor}
use Rattle.cv_points.specs.Missing.{CellWritten}
use Rattle.cv_points.proofs.missing.missing_write.Given as goal

abbrev pub invariant-loop-s : goal.invariant-loop-s
invariant-loop-s l = ((k d : ℕ) → k < l.s-index → CellWritten l.p l.sets l.from (slice_index_or l.pointed k d)) × IsCursor l.p l.at
