use Rattle.std.proofs.Common.{◌≡◌, length}
use Rattle.cv_text.specs.DeclarationReader.{formals_onto}
use Rattle.cv_text.specs.Given.{from}
use Rattle.cv_text.proofs.declarations.formals_onto.Given as goal

abbrev pub invariant-loop-formals : goal.invariant-loop-formals
invariant-loop-formals l = formals_onto l.formals (from l.text l.here) ≡ formals_onto l.fn.before (from l.text l.at)

abbrev pub decreases-loop-formals : goal.decreases-loop-formals
decreases-loop-formals l = length (from l.text l.here)
