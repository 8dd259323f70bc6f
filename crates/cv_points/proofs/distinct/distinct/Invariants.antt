use Rattle.cv_points.proofs.Kept.{AreKept}
use Rattle.cv_points.proofs.distinct.distinct.Given as goal

abbrev pub invariant-loop-rule : goal.invariant-loop-rule
invariant-loop-rule l = AreKept l.rules l.kept.items l.rule-index
