use Rattle.std.proofs.Common.{ℕ, ◌≡◌, ◌<◌, slice_index_or}
use Rattle.cv_points.proofs.missing.has_site.Given as goal

abbrev pub invariant-loop-s : goal.invariant-loop-s
invariant-loop-s l = (k d : ℕ) → k < l.s-index → slice_index_or l.set k d ≡ l.site → ⊥
