use Rattle.std.proofs.Common.{ℕ, ℤ, ◌<◌, length, slice_index_or}
use Rattle.cv_ppts.specs.Numbers.{code_of, codes_of}
use Rattle.cv_ppts.specs.Keys.{setting}
use Rattle.cv_ppts.specs.Lacking.{FormalsPicked}
use Rattle.cv_ppts.proofs.calls.+missing_in_formals.Given as goal

abbrev pub decreases-missing_in_formals : goal.decreases-missing_in_formals
decreases-missing_in_formals l = length l.rest.now

abbrev pub invariant-loop-code : goal.invariant-loop-code
invariant-loop-code l =
    (k : ℕ) (d : ℤ) → k < l.code-index → FormalsPicked (setting l.s) (codes_of l.sets) l.target l.into l.g l.args l.number (code_of (slice_index_or l.code-items k d)) l.formals
