use Rattle.std.proofs.Common.{◌≡◌, ◌++◌, length, map}
use Rattle.std.specs.List.{flat_map}
use Rattle.cv_core.specs.Names.{is_pointer_cell, objects_of}
use Rattle.cv_points.proofs.places.flag_procs.Given as goal

abbrev pub invariant-loop-rest : goal.invariant-loop-rest
invariant-loop-rest l = l.flags.items ++ map (λ x. is_pointer_cell x.body) (flat_map objects_of l.rest) ≡ l.initial.flags.items ++ map (λ x. is_pointer_cell x.body) (flat_map objects_of l.procs)

abbrev pub decreases-loop-rest : goal.decreases-loop-rest
decreases-loop-rest l = length l.rest
