use Rattle.std.proofs.Common.{◌≡◌, ◌+◌, ◌≤◌, length, map}
use Rattle.std.specs.List.{filter}
use Rattle.std.specs.Option.{option_map}
use Rattle.cv_core.specs.Names.{is_object, is_pointer_cell}
use Rattle.cv_ppts.specs.Setting.{cell_number}
use Rattle.cv_ppts.proofs.places.cell_number.Given as goal

abbrev pub invariant-loop-rest : goal.invariant-loop-rest
invariant-loop-rest l =
    (option_map (λ k. l.cells + k) (cell_number (map (λ x. is_pointer_cell x.body) (filter (λ x. is_object x.body) l.rest)) l.skip) ≡ cell_number (map (λ x. is_pointer_cell x.body) (filter (λ x. is_object x.body) l.locals)) l.place)
    × (l.cells + length l.rest ≤ length l.locals)

abbrev pub decreases-loop-rest : goal.decreases-loop-rest
decreases-loop-rest l = length l.rest
