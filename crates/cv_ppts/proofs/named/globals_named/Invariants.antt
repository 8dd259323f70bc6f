use Rattle.std.proofs.Common.{◌≡◌, ◌++◌, length}
use Rattle.std.specs.List.{flat_map}
use Rattle.cv_ppts.specs.Entities.{as_list, global_number}
use Rattle.cv_ppts.proofs.named.globals_named.Given as goal

abbrev pub invariant-loop-rest : goal.invariant-loop-rest
invariant-loop-rest l = l.numbers.items ++ flat_map (λ x. as_list (global_number l.p x)) l.rest ≡ flat_map (λ x. as_list (global_number l.p x)) l.names

abbrev pub decreases-loop-rest : goal.decreases-loop-rest
decreases-loop-rest l = length l.rest
