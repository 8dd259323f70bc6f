use Rattle.std.proofs.Common.{◌≡◌, ◌++◌, length}
use Rattle.std.specs.List.{flat_map}
use Rattle.cv_ppts.specs.Entities.{as_list, literal_in}
use Rattle.cv_ppts.proofs.named.literals_named.Given as goal

abbrev pub invariant-loop-rest : goal.invariant-loop-rest
invariant-loop-rest l = l.numbers.items ++ flat_map (λ s. as_list (literal_in l.p s.form)) l.rest ≡ flat_map (λ s. as_list (literal_in l.p s.form)) l.stmts

abbrev pub decreases-loop-rest : goal.decreases-loop-rest
decreases-loop-rest l = length l.rest
