use Rattle.std.proofs.Common.{◌≡◌, ◌+◌, ◌≤◌, map, length}
use Rattle.std.specs.List.{filter}
use Rattle.cv_core.specs.Names.{is_object as object, is_pointer_cell as pointer_cell}
use Rattle.cv_points.specs.Walks.{walk}
use Rattle.cv_points.proofs.walk.walk_locals.Given as goal

abbrev pub invariant-loop-rest : goal.invariant-loop-rest
invariant-loop-rest l = (walk (map (λ x. pointer_cell x.body) (filter (λ x. object x.body) l.rest)) l.skip l.seen ≡ walk (map (λ x. pointer_cell x.body) (filter (λ x. object x.body) l.locals)) l.from l.before) × (l.skip + l.seen ≤ l.from + l.before)

abbrev pub decreases-loop-rest : goal.decreases-loop-rest
decreases-loop-rest l = length l.rest
