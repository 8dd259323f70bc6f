use Rattle.std.proofs.Common.{◌≡◌, map, take}
use Rattle.std.specs.List.{sum}
use Rattle.cv_core.specs.Names.{mallocs_in, stmts_of}
use Rattle.cv_points.specs.Walks.{word}
use Rattle.cv_points.proofs.holders.earlier_mallocs.Given as goal

abbrev pub invariant-loop-f : goal.invariant-loop-f
invariant-loop-f l = l.total ≡ word (sum (map (λ g. mallocs_in (stmts_of g.body)) (take l.f-index l.p.procs)))
