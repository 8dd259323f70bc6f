-- The order of lists of pairs.
use Rattle.std.specs.Prelude.{ℕ, ℤ, List}
use Rattle.std.specs.Ordering.{int_cmp, nat_cmp, ordering_then}
use Rattle.std.specs.Cmp.Lexicographic.{slice_cmp}
use Rattle.std.specs.declared.cmp.Ordering.{Ordering}

-- the order of pairs: by variable, then by coefficient
abbrev pub pair_cmp : ℕ × ℤ → ℕ × ℤ → Ordering
pair_cmp p q = ordering_then (nat_cmp p.0 q.0) (int_cmp p.1 q.1)

-- the order of lists of pairs: pair by pair, a prefix first
abbrev pub pairs_cmp : List (ℕ × ℤ) → List (ℕ × ℤ) → Ordering
pairs_cmp = slice_cmp pair_cmp
