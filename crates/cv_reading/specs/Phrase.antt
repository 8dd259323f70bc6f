-- Sets of token lines, and how they are put together.
use Rattle.std.specs.Prelude.{◌≡◌, List, [], ◌∷◌, ◌++◌}

-- this token alone
abbrev pub one : {T : Type 0} → T → List T → Type 0
one t text = text ≡ t ∷ []

abbrev pub nothing : {T : Type 0} → List T → Type 0
nothing text = text ≡ []

-- a line of p, and behind it one of q
infixr 12 ◌⋅◌
abbrev pub ◌⋅◌ : {T : Type 0} → (List T → Type 0) → (List T → Type 0) → List T → Type 0
(p ⋅ q) text = (front : _) × (rest : _) × p front × q rest × (text ≡ front ++ rest)

-- the items one behind another
abbrev pub Each : {T A : Type 0} → (A → List T → Type 0) → List A → List T → Type 0
Each p [] = nothing
Each p (a ∷ rest) = p a ⋅ Each p rest

-- the items, each with a separator before it
abbrev pub Following : {T A : Type 0} → (List T → Type 0) → (A → List T → Type 0) → List A → List T → Type 0
Following separator p [] = nothing
Following separator p (a ∷ rest) = separator ⋅ p a ⋅ Following separator p rest

-- the items with a separator between each two
abbrev pub Separated : {T A : Type 0} → (List T → Type 0) → (A → List T → Type 0) → List A → List T → Type 0
Separated separator p [] = nothing
Separated separator p (a ∷ rest) = p a ⋅ Following separator p rest
