-- The growth of a family until it keeps a list of rules, with the places of cells in a table by site.
use Rattle.std.specs.Prelude.{Bool, Contains, List, MatchBool, None, Option, Some, [], length, slice_index_or, true, false, suc, ℕ, ◌+◌, ◌<◌, ◌≡◌, ◌∷◌, ◌^◌, ◌⊎◌}
use Rattle.cv_core.specs.declared.program.Program.{Program}
use Rattle.cv_points.specs.Closed.{Family, IsClosed, IsSubset, IsWithin, Holds, set_at}
use Rattle.cv_points.specs.Holders.{cell_place}
use Rattle.cv_points.specs.Least.{IsAscending}
use Rattle.cv_points.specs.Merge.{is_merged, merge}
use Rattle.cv_points.specs.declared.rules.Rule.{Rule}
use Rattle.cv_points.specs.declared.rules.Rule.TheVariants as rule

-- for each site the place of the set of its pointer cell
abbrev pub Places : Type 0
Places = List (Option ℕ)

abbrev pub place_at : Places → ℕ → Option ℕ
place_at cells s = slice_index_or cells s None

abbrev pub ArePlaces : Program → Places → Type 0
ArePlaces P cells = (s : ℕ) → place_at cells s ≡ cell_place P s

-- the places of flagged objects, numbered from n on
abbrev pub numbered : ℕ → List Bool → Places
numbered n [] = []
numbered n (true ∷ cs) = Some n ∷ numbered (suc n) cs
numbered n (false ∷ cs) = None ∷ numbered n cs

-- ---- rules by the table

abbrev pub ReadsCell : Places → Family → ℕ → ℕ → Type 0
ReadsCell cells S to s = (cell : ℕ) → place_at cells s ≡ Some cell → IsSubset (set_at S cell) (set_at S to)

abbrev pub WritesCell : Places → Family → ℕ → ℕ → Type 0
WritesCell cells S from s = (cell : ℕ) → place_at cells s ≡ Some cell → IsSubset (set_at S from) (set_at S cell)

abbrev pub Keeps : Places → Family → Rule → Type 0
Keeps cells S (rule.Has to s) = Contains (set_at S to) s
Keeps cells S (rule.Includes from to) = IsSubset (set_at S from) (set_at S to)
Keeps cells S (rule.Reads w to) = (s : ℕ) → Contains (set_at S w) s → ReadsCell cells S to s
Keeps cells S (rule.Writes from w) = (s : ℕ) → Contains (set_at S w) s → WritesCell cells S from s

abbrev pub KeepsAll : Places → List Rule → Family → Type 0
KeepsAll cells rules S = (r : Rule) → Contains rules r → Keeps cells S r

-- ---- growth

-- how many sites the sets of a family have
abbrev pub total : Family → ℕ
total [] = 0
total (xs ∷ S) = length xs + total S

-- ascending sets of 32-bit numbers, so many
pub record IsTable (count : ℕ) (S : Family) : Type 0 where
  pub long : length S ≡ count
  pub ascending : (h : ℕ) → IsAscending (set_at S h)
  pub small : (h s : ℕ) → Contains (set_at S h) s → s < 2 ^ 32

-- S grew to T, within each family that is above S and meets Q; where nothing was added, T meets Q
pub record Grows (S T : Family) (more : Bool) (Q : Family → Type 0) : Type 0 where
  pub table : (count : ℕ) → IsTable count S → IsTable count T
  pub within : (R : Family) → IsWithin S R → Q R → IsWithin T R
  pub change : MatchBool more (total S < total T) ((T ≡ S) × Q T)

-- the set at `to` with the sites of xs, None where it has them
abbrev pub IsGrownAt : Family → List ℕ → ℕ → Option (List ℕ) → Type 0
IsGrownAt S xs to None = is_merged xs (set_at S to) ≡ true
IsGrownAt S xs to (Some ys) = (to < length S) × (is_merged xs (set_at S to) ≡ false) × (ys ≡ merge xs (set_at S to))

-- ---- the list of a program's rules

-- the rules put behind a list ask for just Q
pub record AddsRules (P : Program) (old new : List Rule) (Q : Family → Type 0) : Type 0 where
  pub earlier : (S : Family) → ((r : Rule) → Contains new r → Holds P S r) → (r : Rule) → Contains old r → Holds P S r
  pub asked : (S : Family) → ((r : Rule) → Contains new r → Holds P S r) → Q S
  pub enough : (S : Family) → ((r : Rule) → Contains old r → Holds P S r) → Q S → (r : Rule) → Contains new r → Holds P S r

-- a family keeps the rules where it is closed, and nowhere else
pub record AreRules (P : Program) (rules : List Rule) : Type 0 where
  pub closed : (S : Family) → ((r : Rule) → Contains rules r → Holds P S r) → IsClosed P S
  pub enough : (S : Family) → IsClosed P S → (r : Rule) → Contains rules r → Holds P S r

-- S grew until it keeps the rules, to just what they ask for
pub record IsSaturated (cells : Places) (rules : List Rule) (S T : Family) : Type 0 where
  pub table : (count : ℕ) → IsTable count S → IsTable count T
  pub keeps : KeepsAll cells rules T
  pub within : (R : Family) → IsWithin S R → KeepsAll cells rules R → IsWithin T R

-- S grew to T by some of the rules, to nothing but what they ask for
pub record Flows (cells : Places) (rules : List Rule) (S T : Family) : Type 0 where
  pub table : (count : ℕ) → IsTable count S → IsTable count T
  pub within : (R : Family) → IsWithin S R → KeepsAll cells rules R → IsWithin T R

-- ---- rules that are listed once

-- one list has the rules of another
pub record HaveSame (rules kept : List Rule) : Type 0 where
  pub there : (r : Rule) → Contains rules r → Contains kept r
  pub only : (r : Rule) → Contains kept r → Contains rules r

-- a list with a rule that it may have had before
pub record IsKeptIn (old new : List Rule) (rule : Rule) : Type 0 where
  pub earlier : (r : Rule) → Contains old r → Contains new r
  pub there : Contains new rule
  pub only : (r : Rule) → Contains new r → Contains old r ⊎ (r ≡ rule)
