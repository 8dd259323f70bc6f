use Rattle.std.proofs.Common.{◌≡◌, ◌+◌, ◌≤◌, map, length}
use Rattle.std.specs.List.{flat_map}
use Rattle.cv_core.specs.Names.{is_pointer_cell as pointer_cell, objects_of}
use Rattle.cv_points.specs.Walks.{walk}
use Rattle.cv_points.proofs.walk.walk_objects.Given as goal

abbrev pub invariant-loop-rest : goal.invariant-loop-rest
invariant-loop-rest l = (walk (map (λ x. pointer_cell x.body) (flat_map objects_of l.rest)) l.skip l.seen ≡ walk (map (λ x. pointer_cell x.body) (flat_map objects_of l.procs)) l.from l.before) × (l.skip + l.seen ≤ l.from + l.before)

abbrev pub decreases-loop-rest : goal.decreases-loop-rest
decreases-loop-rest l = length l.rest
