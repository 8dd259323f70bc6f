-- the index of the loop is how many zeros there are
use Rattle.std.proofs.Common.{◌≡◌, replicate}
use Rattle.cv_interp.proofs.begin.zeros.Given as goal

abbrev pub invariant-loop-i : goal.invariant-loop-i
invariant-loop-i l = l.bytes.items ≡ replicate l.i 0
