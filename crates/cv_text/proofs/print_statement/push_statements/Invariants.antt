use Rattle.std.proofs.Common.{◌≡◌, ◌++◌, drop, codes}
use Rattle.std.specs.List.{flat_map}
use Rattle.cv_text.specs.Printed as spec
use Rattle.cv_text.proofs.print_statement.push_statements.Given as goal

abbrev pub invariant-loop-s : goal.invariant-loop-s
invariant-loop-s l = l.out.items ++ flat_map (spec.statement_text) (drop l.s-index l.stmts) ≡ l.fn.out.items ++ flat_map (spec.statement_text) l.fn.stmts
