use Rattle.std.proofs.Common.{ℕ, ◌≡◌, ◌<◌, length, slice_index_or}
use Rattle.cv_points.specs.Holders.{first_holder}
use Rattle.cv_points.specs.Walks.{word}
use Rattle.cv_points.proofs.holders.starts.Given as goal

abbrev pub invariant-loop-proc : goal.invariant-loop-proc
invariant-loop-proc l = (length l.table ≡ 256) × ((k d : ℕ) → k < l.proc → k < length l.p.procs → slice_index_or l.table k d ≡ word (first_holder l.p k))
