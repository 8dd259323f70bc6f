use Rattle.std.proofs.Common.{◌≡◌, map, take, length}
use Rattle.std.specs.List.{sum}
use Rattle.cv_core.specs.Names.{objects_of}
use Rattle.cv_points.specs.Walks.{word}
use Rattle.cv_points.proofs.holders.local_site.Given as goal

abbrev pub invariant-loop-f : goal.invariant-loop-f
invariant-loop-f l = l.total ≡ word (sum (map (λ g. length (objects_of g)) (take l.f-index l.p.procs)))
