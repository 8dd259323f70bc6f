use Rattle.cv_core.specs.Names.{is_pointer_global as pointer_global}
use Rattle.std.proofs.Common.{◌≡◌, ◌+◌, ◌≤◌, map, length}
use Rattle.cv_points.specs.Walks.{walk}
use Rattle.cv_points.proofs.walk.walk_globals.Given as goal

abbrev pub invariant-loop-rest : goal.invariant-loop-rest
invariant-loop-rest l = (walk (map (λ g. pointer_global g.body) l.rest) l.skip l.seen ≡ walk (map (λ g. pointer_global g.body) l.globals) l.from 0) × (l.skip + l.seen ≤ l.from)

abbrev pub decreases-loop-rest : goal.decreases-loop-rest
decreases-loop-rest l = length l.rest
