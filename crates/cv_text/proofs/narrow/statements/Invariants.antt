use Rattle.std.proofs.Common.{◌≡◌, [], length}
use Rattle.cv_text.specs.NarrowReader.{statements_onto}
use Rattle.cv_text.specs.Given.{from}
use Rattle.cv_text.proofs.narrow.statements.Given as goal

abbrev pub invariant-loop-stmts : goal.invariant-loop-stmts
invariant-loop-stmts l = statements_onto l.b l.p l.stmts (from l.text l.here) ≡ statements_onto l.b l.p [] (from l.text l.at)

abbrev pub decreases-loop-stmts : goal.decreases-loop-stmts
decreases-loop-stmts l = length (from l.text l.here)
