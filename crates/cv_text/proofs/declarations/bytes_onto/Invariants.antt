use Rattle.std.proofs.Common.{◌≡◌, length}
use Rattle.cv_text.specs.DeclarationReader.{bytes_onto}
use Rattle.cv_text.specs.Given.{from}
use Rattle.cv_text.proofs.declarations.bytes_onto.Given as goal

abbrev pub invariant-loop-bytes : goal.invariant-loop-bytes
invariant-loop-bytes l = bytes_onto l.bytes (from l.text l.here) ≡ bytes_onto l.fn.before (from l.text l.at)

abbrev pub decreases-loop-bytes : goal.decreases-loop-bytes
decreases-loop-bytes l = length (from l.text l.here)
