use Rattle.std.proofs.Common.{◌≡◌, ◌+◌, length}
use Rattle.std.specs.List.{slice_get}
use Rattle.cv_core.specs.Shape.{procs_faults}
use Rattle.cv_core.proofs.shape.walk.first_in_procs.Given as goal

abbrev pub invariant-loop-rest : goal.invariant-loop-rest
invariant-loop-rest l = record { first : slice_get (procs_faults l.names.program.now l.number l.rest) 0 ≡ slice_get (procs_faults l.names.program.now 0 l.names.program.now.procs) 0; count : l.number + length l.rest ≡ length l.names.program.now.procs }

abbrev pub decreases-loop-rest : goal.decreases-loop-rest
decreases-loop-rest l = length l.rest
