use Rattle.std.proofs.Common.{◌≡◌}
use Rattle.cv_meaning.specs.State.{fresh_bytes}
use Rattle.cv_interp.specs.Seen.{left}
use Rattle.cv_interp.proofs.world.fresh_bytes.Given as goal

abbrev pub invariant-loop-i : goal.invariant-loop-i
invariant-loop-i l = l.bytes.items ≡ fresh_bytes l.i (left l.w l.taken)
