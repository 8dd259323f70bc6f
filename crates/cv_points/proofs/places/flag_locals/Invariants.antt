use Rattle.std.proofs.Common.{◌≡◌, ◌++◌, length, map}
use Rattle.std.specs.List.{filter}
use Rattle.cv_core.specs.Names.{is_object, is_pointer_cell}
use Rattle.cv_points.proofs.places.flag_locals.Given as goal

abbrev pub invariant-loop-rest : goal.invariant-loop-rest
invariant-loop-rest l = l.flags.items ++ map (λ x. is_pointer_cell x.body) (filter (λ x. is_object x.body) l.rest) ≡ l.initial.flags.items ++ map (λ x. is_pointer_cell x.body) (filter (λ x. is_object x.body) l.locals)

abbrev pub decreases-loop-rest : goal.decreases-loop-rest
decreases-loop-rest l = length l.rest
