use Rattle.std.proofs.Common.{ℕ, ◌<◌}
use Rattle.cv_ppts.specs.Numbers.{codes_of}
use Rattle.cv_ppts.specs.Keys.{setting}
use Rattle.cv_ppts.specs.Targets.{HoldsAt}
use Rattle.cv_ppts.proofs.closed.missing_in_body.Given as goal

abbrev pub invariant-loop-statement : goal.invariant-loop-statement
invariant-loop-statement l = (k : ℕ) → k < l.statement → HoldsAt (setting l.s) (codes_of l.sets) k
