use Rattle.std.proofs.Common.{◌≡◌, length}
use Rattle.cv_cert.specs.Tokens.{fields, numbers_of}
use Rattle.cv_cert.proofs.Found.{behind}
use Rattle.cv_cert.proofs.fields.numbers.Given as goal

abbrev pub invariant-loop-token : goal.invariant-loop-token
invariant-loop-token l = behind l.found (numbers_of (fields l.rest)) ≡ numbers_of (fields l.fn.line)

abbrev pub decreases-loop-token : goal.decreases-loop-token
decreases-loop-token l = length l.rest
