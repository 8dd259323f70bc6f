-- The union of two ascending sets, by one walk over both.
use Rattle.std.specs.Prelude.{Bool, List, [], false, if◌then◌else◌, nat_lt, not, true, ℕ, ◌++◌, ◌∷◌}

-- the sites of a set that stand before x
abbrev pub below : ℕ → List ℕ → List ℕ
below x [] = []
below x (y ∷ ys) = if nat_lt y x then y ∷ below x ys else []

-- the sites behind those, without x itself
abbrev pub above : ℕ → List ℕ → List ℕ
above x [] = []
above x (y ∷ ys) = if nat_lt y x then above x ys else if nat_lt x y then y ∷ ys else ys

-- whether x stands behind the sites that are less
abbrev pub is_next : ℕ → List ℕ → Bool
is_next x [] = false
is_next x (y ∷ ys) = if nat_lt y x then is_next x ys else not (nat_lt x y)

-- the union
abbrev pub merge : List ℕ → List ℕ → List ℕ
merge [] ys = ys
merge (x ∷ xs) ys = below x ys ++ x ∷ merge xs (above x ys)

-- whether the union is the second set
abbrev pub is_merged : List ℕ → List ℕ → Bool
is_merged [] ys = true
is_merged (x ∷ xs) ys = if is_next x ys then is_merged xs (above x ys) else false
