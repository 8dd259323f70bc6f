use Rattle.std.proofs.Common.{ℕ, ℤ, ◌<◌, ◌≡◌, slice_index_or}
use Rattle.cv_ppts.specs.Numbers.{code_of}
use Rattle.cv_ppts.proofs.sets.contains.Given as goal

abbrev pub invariant-loop-number : goal.invariant-loop-number
invariant-loop-number l = (k : ℕ) (d : ℤ) → k < l.number-index → code_of (slice_index_or l.set k d) ≡ l.code → ⊥
