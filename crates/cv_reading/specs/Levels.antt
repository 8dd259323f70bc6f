-- Where a text opens a level too many.
use Rattle.std.specs.Prelude.{◌≡◌, Bool, false, List, [], ◌∷◌, ◌++◌}
use Rattle.cv_reading.specs.Fault.{Viable}

-- Whatever a line that begins with `front` spells, it has too many levels; and some line goes on with the next token as this one does.
pub record OpensTooMany {T A : Type 0} (spells : A → List T → Type 0) (within : A → Bool) (text : List T) : Type 0 where
  pub front : List T
  pub here : T
  pub rest : List T
  pub parts : text ≡ front ++ here ∷ rest
  pub goes_on : Viable spells (front ++ here ∷ [])
  pub too_many : (a : A) (tail : List T) → spells a (front ++ tail) → within a ≡ false
