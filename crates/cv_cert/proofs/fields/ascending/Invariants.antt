use Rattle.std.proofs.Common.{◌≡◌, length}
use Rattle.cv_cert.specs.Tokens.{fields, ascending_from}
use Rattle.cv_cert.proofs.Found.{behind}
use Rattle.cv_cert.proofs.fields.ascending.Given as goal

abbrev pub invariant-loop-token : goal.invariant-loop-token
invariant-loop-token l = behind l.found (ascending_from l.from (fields l.rest)) ≡ ascending_from 0 (fields l.fn.line)

abbrev pub decreases-loop-token : goal.decreases-loop-token
decreases-loop-token l = length l.rest
