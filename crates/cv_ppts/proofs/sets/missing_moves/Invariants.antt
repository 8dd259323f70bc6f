use Rattle.std.proofs.Common.{ℕ, ℤ, ◌<◌, slice_index_or}
use Rattle.cv_ppts.specs.Numbers.{code_of, codes_of}
use Rattle.cv_ppts.specs.Plain.{MovesTo}
use Rattle.cv_ppts.proofs.sets.missing_moves.Given as goal

abbrev pub invariant-loop-number : goal.invariant-loop-number
invariant-loop-number l = (k : ℕ) (d : ℤ) → k < l.number-index → MovesTo (codes_of l.sets) (code_of (slice_index_or l.codes k d)) l.to
