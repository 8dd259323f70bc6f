use Rattle.cv_core.specs.Names.{is_pointer_kind}
use Rattle.std.proofs.Common.{◌≡◌, length, map}
use Rattle.std.specs.List.{filter}
use Rattle.cv_ppts.specs.Entities.{class_of_kind}
use Rattle.cv_ppts.specs.Setting.{class_with}
use Rattle.cv_ppts.proofs.scope.formal_class.Given as goal

abbrev pub invariant-loop-rest : goal.invariant-loop-rest
invariant-loop-rest l =
    class_with l.block l.left (map (λ x. class_of_kind x.kind) (filter (λ x. is_pointer_kind x.kind) l.rest))
    ≡ class_with l.block l.codes (map (λ x. class_of_kind x.kind) (filter (λ x. is_pointer_kind x.kind) l.formals))

abbrev pub decreases-loop-rest : goal.decreases-loop-rest
decreases-loop-rest l = length l.rest
