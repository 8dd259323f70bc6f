use Rattle.std.proofs.Common.{◌≡◌, ◌+◌, ◌≤◌, length, map}
use Rattle.std.specs.List.{count_by, filter}
use Rattle.cv_core.specs.Names.{is_object, is_pointer_cell}
use Rattle.cv_ppts.proofs.places.cell_count.Given as goal

abbrev pub invariant-loop-rest : goal.invariant-loop-rest
invariant-loop-rest l =
    (l.count + count_by (λ c. c) (map (λ x. is_pointer_cell x.body) (filter (λ x. is_object x.body) l.rest)) ≡ count_by (λ c. c) (map (λ x. is_pointer_cell x.body) (filter (λ x. is_object x.body) l.locals)))
    × (l.count + length l.rest ≤ length l.locals)

abbrev pub decreases-loop-rest : goal.decreases-loop-rest
decreases-loop-rest l = length l.rest
