-- What stands under the names of a store, where it tells its content.
use Rattle.std.specs.Prelude.{◌≡◌, ◌≢◌, ℕ, ◌<◌, List, length, Option, None, Some, IfSome, IsSomeAnd}

-- the bytes under each name that is there
abbrev pub Files : Type 0
Files = List ℕ → Option (List ℕ)

-- the name is there, with these bytes
abbrev pub Holds : Option Files → List ℕ → List ℕ → Type 0
Holds told name bytes = IfSome told (λ files. files name ≡ Some bytes)

-- the name is there, with more bytes than so many
abbrev pub HoldsMore : Option Files → List ℕ → ℕ → Type 0
HoldsMore told name limit = IfSome told (λ files. IsSomeAnd (files name) (λ bytes. limit < length bytes))

-- the name isn't there
abbrev pub IsAbsent : Option Files → List ℕ → Type 0
IsAbsent told name = IfSome told (λ files. files name ≡ None)

-- every other name is as it was
abbrev pub ChangesOnly : Option Files → List ℕ → Option Files → Type 0
ChangesOnly None name after = after ≡ None
ChangesOnly (Some files) name after =
    IsSomeAnd after (λ changed. (other : List ℕ) → other ≢ name → changed other ≡ files other)
