use Rattle.std.proofs.Common.{◌≡◌, ◌++◌, length}
use Rattle.std.specs.List.{flat_map}
use Rattle.cv_ppts.specs.Entities.{held}
use Rattle.cv_ppts.proofs.search.all_held.Given as goal

abbrev pub invariant-loop-rest : goal.invariant-loop-rest
invariant-loop-rest l = l.all.items ++ flat_map (held l.s.p.now l.s.sets.now) l.rest ≡ flat_map (held l.s.p.now l.s.sets.now) l.sites

abbrev pub decreases-loop-rest : goal.decreases-loop-rest
decreases-loop-rest l = length l.rest
