use Rattle.std.proofs.Common.{ℕ, ◌<◌, slice_get}
use Rattle.cv_points.specs.Closed.{MaybeHolds, formal_rule}
use Rattle.cv_points.specs.Holders.{first_holder}
use Rattle.cv_points.proofs.statements.missing_in_formals.Given as goal

abbrev pub invariant-loop-number : goal.invariant-loop-number
invariant-loop-number l = (k : ℕ) → k < l.number → MaybeHolds l.p l.sets (formal_rule (first_holder l.p l.proc) l.f (slice_get l.f.formals k))
