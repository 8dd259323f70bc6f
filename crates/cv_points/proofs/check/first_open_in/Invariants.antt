use Rattle.std.proofs.Common.{ℕ, ◌<◌}
use Rattle.cv_points.specs.Closed.{HoldsIn}
use Rattle.cv_points.proofs.check.first_open_in.Given as goal

abbrev pub invariant-loop-statement : goal.invariant-loop-statement
invariant-loop-statement l = (k : ℕ) → k < l.statement → HoldsIn l.p l.sets l.proc l.f k
