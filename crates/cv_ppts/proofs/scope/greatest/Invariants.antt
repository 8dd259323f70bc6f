use Rattle.std.proofs.Common.{◌≡◌, length, max}
use Rattle.cv_ppts.specs.Setting.{greatest}
use Rattle.cv_ppts.proofs.scope.greatest.Given as goal

abbrev pub invariant-loop-rest : goal.invariant-loop-rest
invariant-loop-rest l = max l.most (greatest l.rest) ≡ greatest l.codes

abbrev pub decreases-loop-rest : goal.decreases-loop-rest
decreases-loop-rest l = length l.rest
