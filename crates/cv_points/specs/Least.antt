-- The least closed family: closed, and within every closed family.
use Rattle.std.specs.Prelude.{List, [], length, suc, ℕ, ◌∷◌, ◌≡◌, ◌≤◌}
use Rattle.cv_core.specs.declared.program.Program.{Program}
use Rattle.cv_points.specs.Closed.{Family, IsClosed, IsWithin, set_at}
use Rattle.cv_points.specs.Holders.{holders}

abbrev pub IsAscendingFrom : ℕ → List ℕ → Type 0
IsAscendingFrom low [] = Unit {0}
IsAscendingFrom low (s ∷ ss) = (low ≤ s) × IsAscendingFrom (suc s) ss

-- strictly ascending
abbrev pub IsAscending : List ℕ → Type 0
IsAscending ss = IsAscendingFrom 0 ss

pub record IsEmptyFamily (count : ℕ) (S : Family) : Type 0 where
  pub long : length S ≡ count
  pub empty : (h : ℕ) → set_at S h ≡ []

-- one ascending set for each holder, closed, and within every closed family
pub record IsLeast (P : Program) (S : Family) : Type 0 where
  pub long : length S ≡ holders P
  pub ascending : (h : ℕ) → IsAscending (set_at S h)
  pub closed : IsClosed P S
  pub least : (R : Family) → length R ≡ holders P → IsClosed P R → IsWithin S R
