use Rattle.std.proofs.Common.{ℕ, ◌<◌, slice_index_or}
use Rattle.std.specs.List.{Contains}
use Rattle.cv_points.proofs.missing.first_searched.Given as goal

abbrev pub invariant-loop-s : goal.invariant-loop-s
invariant-loop-s l = (k d : ℕ) → k < l.s-index → Contains l.to (slice_index_or l.from k d)
