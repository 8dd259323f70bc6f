use Rattle.std.proofs.Common.{◌≡◌, ◌++◌, ◌+◌, drop}
use Rattle.cv_cert.specs.Writing.{case_text, numbered_text}
use Rattle.cv_cert.proofs.write.push_cases.Given as goal

abbrev pub invariant-loop-n : goal.invariant-loop-n
invariant-loop-n l = l.out.items ++ numbered_text case_text (1 + l.n) (drop l.n l.cases) ≡ l.fn.out.items ++ numbered_text case_text 1 l.fn.cases
