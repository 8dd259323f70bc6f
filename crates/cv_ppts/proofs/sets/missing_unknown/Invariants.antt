use Rattle.std.proofs.Common.{ℕ, ◌<◌, ◌+◌}
use Rattle.cv_ppts.specs.Numbers.{codes_of}
use Rattle.cv_ppts.specs.declared.code.Code.TheVariants as code
use Rattle.cv_ppts.specs.Plain.{HasCode}
use Rattle.cv_ppts.proofs.sets.missing_unknown.Given as goal

abbrev pub invariant-loop-number : goal.invariant-loop-number
invariant-loop-number l = (k : ℕ) → k < l.number → HasCode (codes_of l.sets) (l.first + k) (code.Unknown)
