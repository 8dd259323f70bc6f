use Rattle.std.proofs.Common.{◌≡◌, length, []}
use Rattle.cv_text.specs.DeclarationReader.{locals_onto}
use Rattle.cv_text.specs.Given.{from}
use Rattle.cv_text.proofs.declarations.locals.Given as goal

abbrev pub invariant-loop-locals : goal.invariant-loop-locals
invariant-loop-locals l = locals_onto l.locals (from l.text l.here) ≡ locals_onto [] (from l.text l.at)

abbrev pub decreases-loop-locals : goal.decreases-loop-locals
decreases-loop-locals l = length (from l.text l.here)
