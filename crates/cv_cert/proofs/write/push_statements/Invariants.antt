use Rattle.std.proofs.Common.{◌≡◌, ◌++◌, drop}
use Rattle.cv_cert.specs.Writing.{statement_text, numbered_text}
use Rattle.cv_cert.proofs.write.push_statements.Given as goal

abbrev pub invariant-loop-n : goal.invariant-loop-n
invariant-loop-n l = l.out.items ++ numbered_text statement_text l.n (drop l.n l.statements) ≡ l.fn.out.items ++ numbered_text statement_text 0 l.fn.statements
