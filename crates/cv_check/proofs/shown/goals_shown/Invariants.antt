use Rattle.std.proofs.Common.{◌≡◌, length, map}
use Rattle.cv_check.specs.Shown.{owed, all_shown}
use Rattle.cv_check.proofs.shown.goals_shown.Given as goal

abbrev pub invariant-loop-rest : goal.invariant-loop-rest
invariant-loop-rest l = all_shown (map (owed l.fn.hyps) l.rest) l.left ≡ all_shown (map (owed l.fn.hyps) l.fn.goals) l.fn.steps

abbrev pub decreases-loop-rest : goal.decreases-loop-rest
decreases-loop-rest l = length l.rest
