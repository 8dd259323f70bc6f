use Rattle.std.proofs.Common.{ℕ, ◌≡◌, [], length}
use Rattle.cv_ppts.specs.Numbers.{row_at}
use Rattle.cv_ppts.proofs.growth.empty_sets.Given as goal

abbrev pub invariant-loop : goal.invariant-loop
invariant-loop l = (length l.sets.items ≡ l.counter) × ((h : ℕ) → row_at l.sets.items h ≡ [])
