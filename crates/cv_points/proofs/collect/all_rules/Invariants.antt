use Rattle.std.proofs.Common.{ℕ, []}
use Rattle.cv_points.specs.Closed.{Family, HoldsAt}
use Rattle.cv_points.specs.Growing.{AddsRules}
use Rattle.cv_points.proofs.Added.{Below}
use Rattle.cv_points.proofs.collect.all_rules.Given as goal

abbrev pub invariant-loop-proc : goal.invariant-loop-proc
invariant-loop-proc l = AddsRules l.p [] l.rules.items (Below (λ (S : Family) (n : ℕ). (k : ℕ) → HoldsAt l.p S n k) l.proc)
