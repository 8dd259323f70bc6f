use Rattle.std.proofs.Common.{ℕ, ◌<◌, slice_index_or}
use Rattle.cv_points.specs.Cursors.{IsCursor}
use Rattle.cv_points.specs.Missing.{CellRead}
use Rattle.cv_points.proofs.missing.missing_read.Given as goal

abbrev pub invariant-loop-s : goal.invariant-loop-s
invariant-loop-s l = ((k d : ℕ) → k < l.s-index → CellRead l.p l.sets (slice_index_or l.pointed k d) l.to) × IsCursor l.p l.at
