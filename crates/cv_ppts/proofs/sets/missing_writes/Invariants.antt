use Rattle.std.proofs.Common.{ℕ, ℤ, ◌<◌, slice_index_or}
use Rattle.cv_ppts.specs.Numbers.{code_of, codes_of}
use Rattle.cv_ppts.specs.Keys.{setting}
use Rattle.cv_ppts.specs.Plain.{WritesTo, content_in}
use Rattle.cv_ppts.proofs.sets.missing_writes.Given as goal

abbrev pub invariant-loop-number : goal.invariant-loop-number
invariant-loop-number l = (k : ℕ) (d : ℤ) → k < l.number-index → WritesTo (codes_of l.sets) l.from (content_in (setting l.s) (code_of (slice_index_or l.codes k d)))
