use Rattle.std.proofs.Common.{◌≡◌, length}
use Rattle.cv_text.specs.StatementReader.{arguments_onto}
use Rattle.cv_text.specs.Given.{from}
use Rattle.cv_text.proofs.operands.arguments_onto.Given as goal

abbrev pub invariant-loop-arguments : goal.invariant-loop-arguments
invariant-loop-arguments l = arguments_onto l.arguments (from l.text l.here) ≡ arguments_onto l.fn.before (from l.text l.at)

abbrev pub decreases-loop-arguments : goal.decreases-loop-arguments
decreases-loop-arguments l = length (from l.text l.here)
