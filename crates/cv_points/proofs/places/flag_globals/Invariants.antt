use Rattle.cv_core.specs.Names.{is_pointer_global}
use Rattle.std.proofs.Common.{◌≡◌, ◌++◌, length, map}
use Rattle.cv_points.proofs.places.flag_globals.Given as goal

abbrev pub invariant-loop-rest : goal.invariant-loop-rest
invariant-loop-rest l = l.flags.items ++ map (λ g. is_pointer_global g.body) l.rest ≡ l.initial.flags.items ++ map (λ g. is_pointer_global g.body) l.globals

abbrev pub decreases-loop-rest : goal.decreases-loop-rest
decreases-loop-rest l = length l.rest
