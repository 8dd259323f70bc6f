-- The order of rows by their coefficients, those of the least variable first, and by their constants last. It stays when a row is added on both sides.
use Rattle.std.specs.Prelude.{Bool, false, int_lt, List, [], negsuc, pos, ℕ, ℤ, ◌+◌, ◌++◌, ◌<ℤ◌, ◌<◌, ◌^◌, ◌∷◌, ◌≡◌}
use Rattle.std.specs.declared.cmp.Ordering.{Ordering}
use Rattle.std.specs.declared.cmp.Ordering.TheVariants.{Less, Equal, Greater}
use Rattle.cv_num.specs.declared.rows.Row.{Row}
use Rattle.cv_num.specs.Pairs.{IsCanonical, coefficient_of}
use Rattle.cv_num.specs.Algebra.{add_pairs, times_pairs}

-- at the least variable at which f and g differ, f is less
pub record IsBelow (f g : ℕ → ℤ) : Type 0 where
  pub at : ℕ
  pub less : f at <ℤ g at
  pub same : (u : ℕ) → u < at → f u ≡ g u

-- how f compares with g, which differ at a variable of 32 bits if at all
abbrev pub IsCompared : Ordering → (ℕ → ℤ) → (ℕ → ℤ) → Type 0
IsCompared Less f g = (b : IsBelow f g) × (b.at < 2 ^ 32)
IsCompared Equal f g = (u : ℕ) → f u ≡ g u
IsCompared Greater f g = (b : IsBelow g f) × (b.at < 2 ^ 32)

-- xs split at v: its coefficient there, and pairs of greater variables alone
pub record IsSplit (xs : List (ℕ × ℤ)) (v : ℕ) (c : ℤ) (rest : List (ℕ × ℤ)) : Type 0 where
  pub here : coefficient_of xs v ≡ c
  pub beyond : (u : ℕ) → v < u → coefficient_of xs u ≡ coefficient_of rest u
  pub none : (u : ℕ) → u < v + 1 → coefficient_of rest u ≡ pos 0
  pub canonical : IsCanonical rest

-- a row's pairs, with its constant as the coefficient of a variable after all others
abbrev pub entries : Row → List (ℕ × ℤ)
entries r = r.pairs ++ (2 ^ 32, r.constant) ∷ []

abbrev pub is_rising : List (ℕ × ℤ) → Bool
is_rising [] = false
is_rising (p ∷ ps) = int_lt (pos 0) p.1

-- whether a stands before b: the first entry of b - a is positive
abbrev pub row_lt : Row → Row → Bool
row_lt a b = is_rising (add_pairs (entries b) (add_pairs (times_pairs (negsuc 0) (entries a)) []))
