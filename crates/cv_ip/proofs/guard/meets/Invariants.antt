use Rattle.std.proofs.Common.{length, take}
use Rattle.cv_ip.specs.Takes.{AreMet, entries, with_fresh}
use Rattle.cv_ip.proofs.guard.meets.Given as goal

abbrev pub invariant-loop-row : goal.invariant-loop-row
invariant-loop-row l = AreMet (with_fresh (length l.old) (entries l.old) (entries l.fresh)) (take l.row-index l.row-items)
