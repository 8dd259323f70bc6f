use Rattle.std.proofs.Common.{◌-◌}
use Rattle.cv_farkas.proofs.SearchLemmas.{IsWalked}
use Rattle.cv_farkas.proofs.search.find_sum.Given as goal

abbrev pub invariant-loop-high : goal.invariant-loop-high
invariant-loop-high l = IsWalked l.index l.pairs l.constant l.low l.high

abbrev pub decreases-loop-high : goal.decreases-loop-high
decreases-loop-high l = l.high - l.low
