use Rattle.std.proofs.Common.{◌≡◌, length, []}
use Rattle.cv_text.specs.DeclarationReader.{globals_onto}
use Rattle.cv_text.specs.Given.{from}
use Rattle.cv_text.proofs.declarations.globals.Given as goal

abbrev pub invariant-loop-globals : goal.invariant-loop-globals
invariant-loop-globals l = globals_onto l.globals (from l.text l.here) ≡ globals_onto [] (from l.text l.at)

abbrev pub decreases-loop-globals : goal.decreases-loop-globals
decreases-loop-globals l = length (from l.text l.here)
