-- What codes lack: nothing that greater codes keeping the same lack too.
use Rattle.std.specs.Prelude.{Bool, Contains, List, None, Option, Some, drop, false, if◌then◌else◌, slice_get, true, ℕ, ◌<◌, ◌||◌, ◌≡◌, ◌≤◌}
use Rattle.std.specs.List.{list_any}
use Rattle.cv_core.specs.declared.program.AnyOperand.{AnyOperand}
use Rattle.cv_core.specs.Names.{Name, is_pointer_kind}
use Rattle.cv_core.specs.declared.program.Formal.{Formal}
use Rattle.cv_core.specs.declared.program.Proc.{Proc}
use Rattle.cv_ppts.specs.Choices.{argument_set, cell_set, is_named_cell, is_starred, is_target, listed_cell}
use Rattle.cv_ppts.specs.Picked.{Over, OverPick, has_pick}
use Rattle.cv_ppts.specs.Plain.{HasCode, IsWithin, Sets}
use Rattle.cv_ppts.specs.Setting.{Setting}
use Rattle.cv_ppts.specs.Targets.{ChoiceHolds}
use Rattle.cv_ppts.specs.declared.code.Code.{Code}
use Rattle.cv_ppts.specs.declared.picks.Picks.{Done, Picks}

-- to keep Q, the set at a place has to have a code, and in T it lacks it
pub record Lacks (T : Sets) (Q : Sets → Type 0) (to : ℕ) (code : Code) : Type 0 where
  pub absent : HasCode T to code → ⊥
  pub fails : Q T → ⊥
  pub asked : (R : Sets) → IsWithin T R → Q R → HasCode R to code

-- each of some codes is in a set
abbrev pub HasAll : Sets → List Code → ℕ → Type 0
HasAll T cs to = (c : Code) → Contains cs c → HasCode T to c

-- ---- choices that go on from some picks

-- with the formals' codes, for all ways to go on with those of cells
abbrev pub CellsOver : Setting → Sets → ℕ → Option ℕ → Proc → (ℕ → Code) → Picks → Type 0
CellsOver s T t into g formal L =
    Over (λ u. cell_set s T (is_named_cell s g formal u) u) L (λ cell. ChoiceHolds s T t into g (record { formal = formal; cell = cell }))

abbrev pub CellsPicked : Setting → Sets → ℕ → Option ℕ → Proc → (ℕ → Code) → ℕ → Code → Picks → Type 0
CellsPicked s T t into g formal v c L =
    OverPick (λ u. cell_set s T (is_named_cell s g formal u) u) v c L (λ cell. ChoiceHolds s T t into g (record { formal = formal; cell = cell }))

abbrev pub FormalsOver : Setting → Sets → ℕ → Option ℕ → Proc → List AnyOperand → Picks → Type 0
FormalsOver s T t into g args L = Over (argument_set s T g args) L (λ formal. CellsOver s T t into g formal Done)

abbrev pub FormalsPicked : Setting → Sets → ℕ → Option ℕ → Proc → List AnyOperand → ℕ → Code → Picks → Type 0
FormalsPicked s T t into g args v c L = OverPick (argument_set s T g args) v c L (λ formal. CellsOver s T t into g formal Done)

-- the formals from a number on are still to be picked
pub record FormalsAhead (g : Proc) (rest : List Formal) (number : ℕ) (L : Picks) : Type 0 where
  pub left : drop number g.formals ≡ rest
  pub earlier : (i : ℕ) (x : Formal) → i < number → slice_get g.formals i ≡ Some x → is_pointer_kind x.kind ≡ true → has_pick L i ≡ true
  pub later : (i : ℕ) → number ≤ i → has_pick L i ≡ false

-- the cells that are named and not picked yet are among those ahead, which are named
pub record CellsAhead (s : Setting) (g : Proc) (formal : ℕ → Code) (ahead : ℕ → Bool) (L : Picks) : Type 0 where
  pub covered : (u : ℕ) → is_named_cell s g formal u ≡ true → has_pick L u ≡ false → ahead u ≡ true
  pub named : (u : ℕ) → ahead u ≡ true → is_named_cell s g formal u ≡ true

abbrev pub starred_ahead : Setting → Proc → (ℕ → Code) → ℕ → List Formal → ℕ → Bool
starred_ahead s g formal number rest u = is_starred formal u number rest || list_any (λ x. is_target u (listed_cell s x)) g.contract.listed

abbrev pub listed_ahead : Setting → List Name → ℕ → Bool
listed_ahead s names u = list_any (λ x. is_target u (listed_cell s x)) names

-- a cell that has no pick yet
abbrev pub new_cell : Picks → Option ℕ → Option ℕ
new_cell L None = None
new_cell L (Some u) = if has_pick L u then None else Some u
