use Rattle.std.proofs.Common.{◌≡◌, map, take}
use Rattle.cv_core.specs.declared.program.Stmt.{Stmt}
use Rattle.cv_interp.specs.Plans.{line_of}
use Rattle.cv_interp.proofs.plan.lines_of.Given as goal

abbrev pub invariant-loop-stmt : goal.invariant-loop-stmt
invariant-loop-stmt l = l.lines ≡ map (λ (s : Stmt). line_of l.p l.f s.form) (take l.stmt-index l.stmts)
