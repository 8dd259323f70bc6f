use Rattle.std.proofs.Common.{ℕ, ◌<◌, ◌+◌, slice_index_or}
use Rattle.cv_ppts.specs.Numbers.{codes_of, entity_code}
use Rattle.cv_ppts.specs.Plain.{HasCode}
use Rattle.cv_ppts.proofs.sets.missing_coded.Given as goal

abbrev pub invariant-loop-number : goal.invariant-loop-number
invariant-loop-number l = (k : ℕ) → k < l.number → HasCode (codes_of l.sets) (l.first + k) (entity_code (slice_index_or l.codes k 0))
