-- What a read takes from a source and a write appends to a sink, where they tell their contents.
use Rattle.std.specs.Prelude.{◌≡◌, ℕ, List, [], ◌++◌, Option, IfSome}
use Rattle.std.specs.Option.{option_map}

-- these bytes, and then those that are told
abbrev pub preceded : List ℕ → Option (List ℕ) → Option (List ℕ)
preceded piece told = option_map (λ bytes. piece ++ bytes) told

-- the told bytes, and then these
abbrev pub extended : Option (List ℕ) → List ℕ → Option (List ℕ)
extended told piece = option_map (λ bytes. bytes ++ piece) told

-- what was left before is the piece, and then what is left after
abbrev pub Takes : Option (List ℕ) → List ℕ → Option (List ℕ) → Type 0
Takes before piece after = before ≡ preceded piece after

-- nothing is left
abbrev pub IsAtEnd : Option (List ℕ) → Type 0
IsAtEnd left = IfSome left (λ bytes. bytes ≡ [])

-- the piece was appended
abbrev pub Appends : Option (List ℕ) → List ℕ → Option (List ℕ) → Type 0
Appends before piece after = after ≡ extended before piece

-- some bytes from the front of the whole were appended, perhaps none or all
pub record AppendsPrefix (before : Option (List ℕ)) (whole : List ℕ) (after : Option (List ℕ)) : Type 0 where
  pub piece : List ℕ
  pub rest : List ℕ
  pub parts : piece ++ rest ≡ whole
  pub appended : Appends before piece after
