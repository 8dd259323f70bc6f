-- The lines of a text.
use Rattle.std.specs.Prelude.{ℕ, suc, nat_eq, List, take}
use Rattle.std.specs.List.{count_by}

-- the line of a place, from 1: the newlines before it, and one
abbrev pub line_of : List ℕ → ℕ → ℕ
line_of text at = suc (count_by (λ c. nat_eq c 10) (take at text))
