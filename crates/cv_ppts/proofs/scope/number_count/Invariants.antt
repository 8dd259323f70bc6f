use Rattle.std.proofs.Common.{◌≡◌, ◌+◌, ◌≤◌, length}
use Rattle.cv_ppts.specs.Entities.{distinct}
use Rattle.cv_ppts.specs.Keys.{keys, later_numbers, numbers, setting}
use Rattle.cv_ppts.proofs.scope.number_count.Given as goal

abbrev pub invariant-loop-place : goal.invariant-loop-place
invariant-loop-place l =
    (l.count + length (later_numbers (keys (setting l.s) l.which) l.place) ≡ length (distinct (numbers (keys (setting l.s) l.which))))
    × (l.count ≤ l.place)
