-- The arguments of a call, one after the other.
use Rattle.std.proofs.Common.{◌≡◌, ap, ◌∙◌, List, [], ◌∷◌, ◌++◌, append_assoc, map}
use Rattle.cv_core.specs.declared.program.AnyOperand.{AnyOperand}
use Rattle.cv_meaning.specs.declared.memory.Value.{Value}
use Rattle.cv_meaning.specs.Contract.{Env}
use Rattle.cv_meaning.specs.State.{any_value}

pub more_values : (vars : Env) (old new : List Value) (e : AnyOperand) (es : List AnyOperand) → new ≡ old ++ any_value vars e ∷ [] →
    new ++ map (any_value vars) es ≡ old ++ map (any_value vars) (e ∷ es)
more_values vars old new e es h = ap (λ vs. vs ++ map (any_value vars) es) h ∙ append_assoc old (any_value vars e ∷ []) (map (any_value vars) es)
