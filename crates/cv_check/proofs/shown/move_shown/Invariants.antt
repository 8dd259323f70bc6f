use Rattle.std.proofs.Common.{◌≡◌, map, drop}
use Rattle.cv_num.specs.Algebra.{substituted}
use Rattle.cv_check.specs.Shown.{owed, all_shown}
use Rattle.cv_check.proofs.shown.move_shown.Given as goal

abbrev pub invariant-loop-r : goal.invariant-loop-r
invariant-loop-r l =
    all_shown (map (λ r. owed l.fn.hyps (substituted l.fn.assign r)) (drop l.r-index l.fn.next)) l.left
    ≡ all_shown (map (λ r. owed l.fn.hyps (substituted l.fn.assign r)) l.fn.next) l.fn.steps
