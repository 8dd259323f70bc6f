use Rattle.std.proofs.Common.{◌≡◌, length, []}
use Rattle.cv_text.specs.DeclarationReader.{literals_onto}
use Rattle.cv_text.specs.Given.{from}
use Rattle.cv_text.proofs.declarations.literals.Given as goal

abbrev pub invariant-loop-literals : goal.invariant-loop-literals
invariant-loop-literals l = literals_onto l.literals (from l.text l.here) ≡ literals_onto [] (from l.text l.at)

abbrev pub decreases-loop-literals : goal.decreases-loop-literals
decreases-loop-literals l = length (from l.text l.here)
