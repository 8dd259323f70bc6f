-- What a table of declared names knows.
use Rattle.cv_core.specs.Names.{is_pointer_kind}
use Rattle.std.specs.Prelude.{ℕ, Bool, false, if◌then◌else◌, List, [], ◌∷◌, Option, Some, None}
use Rattle.std.specs.Option.{unwrap_or}
use Rattle.std.specs.Str.{bytes_eq}
use Rattle.std.specs.HashMap.{get_by}
use Rattle.cv_core.specs.declared.program.Formal.{Formal}
use Rattle.cv_core.specs.declared.program.VarKind.{VarKind}
use Rattle.cv_text.specs.declared.names.Scope.{Scope}

-- whether a name is a pointer, where it is declared
abbrev pub entry : Scope → List ℕ → Option Bool
entry s x = get_by (λ k. bytes_eq x k.now) s.pointers

abbrev pub points : Scope → List ℕ → Bool
points s x = unwrap_or (entry s x) false

abbrev pub or_else : {A : Type 0} → Option A → Option A → Option A
or_else (Some a) o = Some a
or_else None o = o

-- what one declaration says of a name
abbrev pub said : List ℕ → VarKind → List ℕ → Option Bool
said name kind x = if bytes_eq name x then Some (is_pointer_kind kind) else None

-- what the first declaration of a name says
abbrev pub first_said : List Formal → List ℕ → Option Bool
first_said [] x = None
first_said (v ∷ vs) x = or_else (said v.name v.kind x) (first_said vs x)
