use Rattle.std.proofs.Common.{ℕ, ◌<◌}
use Rattle.cv_points.specs.Closed.{MaybeHolds, global_rule}
use Rattle.cv_points.proofs.statements.missing_in_globals.Given as goal

abbrev pub invariant-loop-number : goal.invariant-loop-number
invariant-loop-number l = (k : ℕ) → k < l.number → MaybeHolds l.p l.sets (global_rule l.p k)
