use Rattle.std.proofs.Common.{◌↔◌, length}
use Rattle.cv_num.specs.Assigned.{IsAscending}
use Rattle.cv_num.proofs.assigned.is_ascending.Given as goal

abbrev pub invariant-loop-rest : goal.invariant-loop-rest
invariant-loop-rest l = IsAscending l.items ↔ IsAscending l.rest

abbrev pub decreases-loop-rest : goal.decreases-loop-rest
decreases-loop-rest l = length l.rest
