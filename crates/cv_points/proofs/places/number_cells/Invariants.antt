use Rattle.std.proofs.Common.{◌≡◌, ◌++◌, length}
use Rattle.cv_points.specs.Growing.{numbered}
use Rattle.cv_points.proofs.places.number_cells.Given as goal

abbrev pub invariant-loop-rest : goal.invariant-loop-rest
invariant-loop-rest l = l.table.items ++ numbered l.next l.rest ≡ l.initial.table.items ++ numbered l.first l.flags

abbrev pub decreases-loop-rest : goal.decreases-loop-rest
decreases-loop-rest l = length l.rest
