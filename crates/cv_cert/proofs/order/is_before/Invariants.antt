use Rattle.std.proofs.Common.{◌≡◌, length}
use Rattle.cv_cert.specs.Certificate.{is_before}
use Rattle.cv_cert.proofs.order.is_before.Given as goal

abbrev pub invariant-loop-a : goal.invariant-loop-a
invariant-loop-a l = is_before l.a l.b ≡ is_before l.fn.left l.fn.right

abbrev pub decreases-loop-a : goal.decreases-loop-a
decreases-loop-a l = length l.a
