-- What a rule asks for and a family lacks: nothing that a larger family keeping the rule lacks too.
use Rattle.std.specs.Prelude.{Contains, None, Option, Some, ℕ, ◌<◌, ◌^◌, length, ◌≡◌}
use Rattle.cv_core.specs.declared.program.Program.{Program}
use Rattle.cv_points.specs.Closed.{Family, Holds, IsSubset, IsWithin, set_at}
use Rattle.cv_points.specs.Holders.{cell_place}
use Rattle.cv_points.specs.Walks.{word}
use Rattle.cv_points.specs.declared.rules.Rule.{Rule}

-- to keep the rule r, a family has to have the site in the set at `to`, and S lacks it
pub record IsMissing (P : Program) (S : Family) (r : Rule) (to site : ℕ) : Type 0 where
  pub absent : Contains (set_at S to) site → ⊥
  pub fails : Holds P S r → ⊥
  pub asked : (R : Family) → site < 2 ^ 32 → length R < 2 ^ 64 → IsWithin S R → Holds P R r → Contains (set_at R to) site

-- the set at from has the site, and the one at to lacks it
pub record IsLacking (S : Family) (from to site : ℕ) : Type 0 where
  pub there : Contains (set_at S from) site
  pub absent : Contains (set_at S to) site → ⊥

-- the rules of get and put at one site, with the places of cells as a word holds them
abbrev pub CellRead : Program → Family → ℕ → ℕ → Type 0
CellRead P S s to = (cell : ℕ) → cell_place P s ≡ Some cell → IsSubset (set_at S (word cell)) (set_at S to)

abbrev pub CellWritten : Program → Family → ℕ → ℕ → Type 0
CellWritten P S from s = (cell : ℕ) → cell_place P s ≡ Some cell → IsSubset (set_at S from) (set_at S (word cell))

abbrev pub ReadsHold : Program → Family → ℕ → ℕ → Type 0
ReadsHold P S w to = (s : ℕ) → Contains (set_at S w) s → CellRead P S s to

abbrev pub WritesHold : Program → Family → ℕ → ℕ → Type 0
WritesHold P S from w = (s : ℕ) → Contains (set_at S w) s → CellWritten P S from s

pub record LacksFromCell (P : Program) (S : Family) (pointed to site : ℕ) : Type 0 where
  pub cell : ℕ
  pub is_cell : cell_place P pointed ≡ Some cell
  pub lacks : IsLacking S (word cell) to site

pub record LacksInCell (P : Program) (S : Family) (from pointed to site : ℕ) : Type 0 where
  pub cell : ℕ
  pub is_cell : cell_place P pointed ≡ Some cell
  pub place : to ≡ word cell
  pub lacks : IsLacking S from to site

pub record LacksRead (P : Program) (S : Family) (w to site : ℕ) : Type 0 where
  pub pointed : ℕ
  pub points : Contains (set_at S w) pointed
  pub lacks : LacksFromCell P S pointed to site

pub record LacksWritten (P : Program) (S : Family) (from w to site : ℕ) : Type 0 where
  pub pointed : ℕ
  pub points : Contains (set_at S w) pointed
  pub lacks : LacksInCell P S from pointed to site

abbrev pub MaybeMissing : Program → Family → Option Rule → ℕ → ℕ → Type 0
MaybeMissing P S None to site = ⊥
MaybeMissing P S (Some r) to site = IsMissing P S r to site

-- a site that a family keeping Q has to have, and S lacks
pub record Lacks (S : Family) (Q : Family → Type 0) (to site : ℕ) : Type 0 where
  pub absent : Contains (set_at S to) site → ⊥
  pub fails : Q S → ⊥
  pub asked : (R : Family) → site < 2 ^ 32 → length R < 2 ^ 64 → IsWithin S R → Q R → Contains (set_at R to) site
