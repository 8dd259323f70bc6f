use Rattle.std.proofs.Common.{◌≡◌, drop}
use Rattle.std.specs.List.{flat_map}
use Rattle.cv_check.specs.Shown.{move_owed, all_shown}
use Rattle.cv_check.proofs.walk.moves_shown.Given as goal

abbrev pub invariant-loop-step : goal.invariant-loop-step
invariant-loop-step l =
    all_shown (flat_map (move_owed l.fn.rows l.fn.next l.fn.facts) (drop l.step-index l.fn.moves)) l.left
    ≡ all_shown (flat_map (move_owed l.fn.rows l.fn.next l.fn.facts) l.fn.moves) l.fn.steps
