use Rattle.std.proofs.Common.{ℕ, ◌≡◌, [], length}
use Rattle.cv_points.specs.Closed.{set_at}
use Rattle.cv_points.proofs.growth.empty_sets.Given as goal

abbrev pub invariant-loop : goal.invariant-loop
invariant-loop l = (length l.sets.items ≡ l.counter) × ((h : ℕ) → set_at l.sets.items h ≡ [])
