use Rattle.std.proofs.Common.{◌≡◌, drop}
use Rattle.std.specs.List.{flat_map}
use Rattle.cv_check.specs.Shown.{group_owed, all_shown}
use Rattle.cv_check.proofs.walk.groups_shown.Given as goal

abbrev pub invariant-loop-group : goal.invariant-loop-group
invariant-loop-group l =
    all_shown (flat_map (group_owed l.fn.rows l.fn.facts) (drop l.group-index l.fn.groups)) l.left
    ≡ all_shown (flat_map (group_owed l.fn.rows l.fn.facts) l.fn.groups) l.fn.steps
