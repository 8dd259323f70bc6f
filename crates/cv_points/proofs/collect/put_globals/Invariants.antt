use Rattle.std.proofs.Common.{ℕ}
use Rattle.cv_points.specs.Closed.{Family, MaybeHolds, global_rule}
use Rattle.cv_points.specs.Growing.{AddsRules}
use Rattle.cv_points.proofs.Added.{Below}
use Rattle.cv_points.proofs.collect.put_globals.Given as goal

abbrev pub invariant-loop-number : goal.invariant-loop-number
invariant-loop-number l = AddsRules l.p l.initial.rules.items l.rules.items (Below (λ (S : Family) (n : ℕ). MaybeHolds l.p S (global_rule l.p n)) l.number)
