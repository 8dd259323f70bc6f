use Rattle.std.proofs.Common.{◌≡◌, ◌++◌, drop}
use Rattle.cv_cert.specs.Writing.{pairs_text}
use Rattle.cv_cert.proofs.write.push_pairs.Given as goal

abbrev pub invariant-loop-variable : goal.invariant-loop-variable
invariant-loop-variable l = l.out.items ++ pairs_text (drop l.variable-index l.pairs) ≡ l.fn.out.items ++ pairs_text l.fn.pairs
