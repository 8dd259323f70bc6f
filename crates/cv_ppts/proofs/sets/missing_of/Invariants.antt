use Rattle.std.proofs.Common.{ℕ, ℤ, ◌<◌, slice_index_or}
use Rattle.cv_ppts.specs.Numbers.{code_of, codes_of}
use Rattle.cv_ppts.specs.Plain.{HasCode}
use Rattle.cv_ppts.proofs.sets.missing_of.Given as goal

abbrev pub invariant-loop-number : goal.invariant-loop-number
invariant-loop-number l = (k : ℕ) (d : ℤ) → k < l.number-index → HasCode (codes_of l.sets) l.to (code_of (slice_index_or l.codes k d))
