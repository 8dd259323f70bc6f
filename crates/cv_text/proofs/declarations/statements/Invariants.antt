use Rattle.std.proofs.Common.{◌≡◌, length, []}
use Rattle.cv_text.specs.DeclarationReader.{statements_onto}
use Rattle.cv_text.specs.Known.{points}
use Rattle.cv_text.specs.Given.{from}
use Rattle.cv_text.proofs.declarations.statements.Given as goal

abbrev pub invariant-loop-statements : goal.invariant-loop-statements
invariant-loop-statements l = statements_onto (points l.scope) l.statements (from l.text l.here) ≡ statements_onto (points l.scope) [] (from l.text l.at)

abbrev pub decreases-loop-statements : goal.decreases-loop-statements
decreases-loop-statements l = length (from l.text l.here)
