use Rattle.std.proofs.Common.{ℕ, slice_get}
use Rattle.cv_points.specs.Closed.{Family, MaybeHolds, formal_rule}
use Rattle.cv_points.specs.Growing.{AddsRules}
use Rattle.cv_points.specs.Holders.{first_holder}
use Rattle.cv_points.proofs.Added.{Below}
use Rattle.cv_points.proofs.collect.put_formals.Given as goal

abbrev pub invariant-loop-number : goal.invariant-loop-number
invariant-loop-number l = AddsRules l.p l.initial.rules.items l.rules.items (Below (λ (S : Family) (n : ℕ). MaybeHolds l.p S (formal_rule (first_holder l.p l.proc) l.f (slice_get l.f.formals n))) l.number)
