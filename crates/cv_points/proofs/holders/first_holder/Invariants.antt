use Rattle.std.proofs.Common.{◌≡◌, map, take}
use Rattle.std.specs.List.{sum}
use Rattle.cv_points.specs.Holders.{holder_count}
use Rattle.cv_points.specs.Walks.{word}
use Rattle.cv_points.proofs.holders.first_holder.Given as goal

abbrev pub invariant-loop-f : goal.invariant-loop-f
invariant-loop-f l = l.total ≡ word (sum (map holder_count (take l.f-index l.p.procs)))
