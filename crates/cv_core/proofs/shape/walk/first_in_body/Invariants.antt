use Rattle.std.proofs.Common.{◌≡◌, length}
use Rattle.std.specs.List.{slice_get}
use Rattle.cv_core.specs.Shape.{body_faults}
use Rattle.cv_core.proofs.shape.walk.first_in_body.Given as goal

abbrev pub invariant-loop-rest : goal.invariant-loop-rest
invariant-loop-rest l = slice_get (body_faults l.s.program.now l.proc l.s.proc.now l.rest) 0 ≡ slice_get (body_faults l.s.program.now l.proc l.s.proc.now l.stmts) 0

abbrev pub decreases-loop-rest : goal.decreases-loop-rest
decreases-loop-rest l = length l.rest
