use Rattle.std.proofs.Common.{◌↔◌, ◌≡◌, length}
use Rattle.cv_num.proofs.pairs.same_pairs.Given as goal

abbrev pub invariant-loop-left : goal.invariant-loop-left
invariant-loop-left l = (l.wide ≡ l.pairs) ↔ (l.left ≡ l.right)

abbrev pub decreases-loop-left : goal.decreases-loop-left
decreases-loop-left l = length l.left
