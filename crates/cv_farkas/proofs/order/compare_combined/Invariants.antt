use Rattle.std.proofs.Common.{◌-◌, ◌^◌}
use Rattle.cv_farkas.proofs.Sweep.{IsSwept}
use Rattle.cv_farkas.proofs.order.compare_combined.Given as goal

abbrev pub invariant-loop-variable : goal.invariant-loop-variable
invariant-loop-variable l = IsSwept l.left l.right l.goal l.k l.left_rest l.right_rest l.goal_rest l.from

abbrev pub decreases-loop-variable : goal.decreases-loop-variable
decreases-loop-variable l = 2 ^ 32 - l.from
