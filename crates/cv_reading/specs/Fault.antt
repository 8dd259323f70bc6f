-- Where the first fault of a line is.
use Rattle.std.specs.Prelude.{◌≡◌, List, [], ◌∷◌, ◌++◌}

-- Some line that begins so spells something.
abbrev pub Viable : {T A : Type 0} → (A → List T → Type 0) → List T → Type 0
Viable {T} {A} spells front = (a : A) × (tail : List T) × spells a (front ++ tail)

-- No line goes on from there as this one does.
abbrev pub Fails : {T A : Type 0} → (A → List T → Type 0) → List T → List T → Type 0
Fails {T} {A} spells front [] = (a : A) → spells a front → ⊥
Fails spells front (t ∷ rest) = Viable spells (front ++ t ∷ []) → ⊥

-- The tokens from `at` on are those from the first on that no line can have there.
pub record FirstFault {T A : Type 0} (spells : A → List T → Type 0) (text at : List T) : Type 0 where
  pub front : List T
  pub parts : text ≡ front ++ at
  pub viable : Viable spells front
  pub fails : Fails spells front at
