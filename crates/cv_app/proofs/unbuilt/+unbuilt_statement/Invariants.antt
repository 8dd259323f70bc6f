use Rattle.std.proofs.Common.{length}
use Rattle.cv_app.proofs.unbuilt.+unbuilt_statement.Given as goal

abbrev pub decreases-unbuilt_statement : goal.decreases-unbuilt_statement
decreases-unbuilt_statement l = length l.stmts.now
