use Rattle.std.proofs.Common.{◌≡◌, ◌+◌, ◌≤◌, length}
use Rattle.std.specs.List.{count_by}
use Rattle.cv_ppts.specs.Setting.{allocates}
use Rattle.cv_ppts.proofs.places.allocating.Given as goal

abbrev pub invariant-loop-rest : goal.invariant-loop-rest
invariant-loop-rest l =
    (l.count + count_by (λ x. allocates l.p x.form) l.rest ≡ count_by (λ x. allocates l.p x.form) l.stmts) × (l.count + length l.rest ≤ length l.stmts)

abbrev pub decreases-loop-rest : goal.decreases-loop-rest
decreases-loop-rest l = length l.rest
