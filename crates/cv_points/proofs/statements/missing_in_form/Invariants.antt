use Rattle.std.proofs.Common.{ℕ, suc, ◌<◌}
use Rattle.cv_points.specs.Closed.{MaybeHolds, form_rule}
use Rattle.cv_points.proofs.statements.missing_in_form.Given as goal

abbrev pub invariant-loop-number : goal.invariant-loop-number
invariant-loop-number l = (k : ℕ) → k < l.number → MaybeHolds l.p l.sets (form_rule l.p l.proc l.f l.statement l.form (suc k))
