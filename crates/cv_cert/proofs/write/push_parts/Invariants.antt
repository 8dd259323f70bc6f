use Rattle.std.proofs.Common.{◌≡◌, ◌++◌, drop}
use Rattle.cv_cert.specs.Writing.{parts_text}
use Rattle.cv_cert.proofs.write.push_parts.Given as goal

abbrev pub invariant-loop-hypothesis : goal.invariant-loop-hypothesis
invariant-loop-hypothesis l = l.out.items ++ parts_text (drop l.hypothesis-index l.parts) ≡ l.fn.out.items ++ parts_text l.fn.parts
