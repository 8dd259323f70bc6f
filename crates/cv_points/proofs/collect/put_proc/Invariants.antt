use Rattle.std.proofs.Common.{ℕ}
use Rattle.cv_points.specs.Closed.{Family, HoldsIn}
use Rattle.cv_points.specs.Growing.{AddsRules}
use Rattle.cv_points.proofs.Added.{Below}
use Rattle.cv_points.proofs.collect.put_proc.Given as goal

abbrev pub invariant-loop-statement : goal.invariant-loop-statement
invariant-loop-statement l = AddsRules l.p l.initial.rules.items l.rules.items (Below (λ (S : Family) (n : ℕ). HoldsIn l.p S l.proc l.f n) l.statement)
