use Rattle.std.proofs.Common.{◌≡◌, ◌+◌, ◌≤◌, nat_eq, position}
use Rattle.std.specs.Option.{option_map}
use Rattle.cv_ppts.specs.Entities.{distinct}
use Rattle.cv_ppts.specs.Keys.{keys, later_numbers, numbers, setting}
use Rattle.cv_ppts.proofs.scope.number_place.Given as goal

abbrev pub invariant-loop-place : goal.invariant-loop-place
invariant-loop-place l =
    (option_map (λ k. l.count + k) (position (λ m. nat_eq m l.number) (later_numbers (keys (setting l.s) l.which) l.place)) ≡ position (λ m. nat_eq m l.number) (distinct (numbers (keys (setting l.s) l.which))))
    × (l.count ≤ l.place)
