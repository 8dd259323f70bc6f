-- What a certificate has to show of a straight-line main, and how its steps show it.
use Rattle.std.specs.Prelude.{ℕ, Bool, not, ◌&&◌, ◌==◌, nat_le, List, [], ◌∷◌, ◌++◌, length, map, slice_index_or, Option, Some, None, if◌then◌else◌}
use Rattle.std.specs.List.{list_all, flat_map}
use Rattle.std.specs.Option.{option_and_then}
use Rattle.cv_num.specs.declared.rows.Row.{Row}
use Rattle.cv_num.specs.Algebra.{substituted, zero_row}
use Rattle.cv_farkas.specs.declared.steps.Step.{Step}
use Rattle.cv_farkas.specs.Proof.{direct, holds}
use Rattle.cv_core.specs.declared.program.Stmt.{Stmt}
use Rattle.cv_check.specs.declared.place.Group.{Group}
use Rattle.cv_check.specs.declared.place.Move.{Move}
use Rattle.cv_check.specs.declared.place.Place.{Place}
use Rattle.cv_check.specs.Integer.{place, facts, entry, first_zero}

-- the goal has to follow from the hypotheses
pub record Owed : Type 0 where
  pub hyps : List Row
  pub goal : Row

abbrev pub owed : List Row → Row → Owed
owed hyps goal = record { hyps = hyps; goal = goal }

-- the goals of a group, from the statement's rows, the guard and the facts
abbrev pub group_owed : List Row → List Row → Group → List Owed
group_owed rows facts g = map (owed (rows ++ g.guard ++ facts)) g.goals

-- the rows of the next statement after a transition, from the statement's rows, the guard and the facts
abbrev pub move_owed : List Row → List Row → List Row → Move → List Owed
move_owed rows next facts t = map (λ r. owed (rows ++ t.guard ++ facts) (substituted t.assign r)) next

abbrev pub place_owed : List Row → List Row → List Row → Place → List Owed
place_owed rows next facts at = flat_map (group_owed rows facts) at.groups ++ flat_map (move_owed rows next facts) at.moves

abbrev pub first_rows : List (List Row) → List Row
first_rows [] = []
first_rows (rows ∷ more) = rows

abbrev pub later_rows : List (List Row) → List (List Row)
later_rows [] = []
later_rows (rows ∷ more) = more

-- statement by statement
abbrev pub stmts_owed : ℕ → Bool → List Stmt → List (List Row) → List Owed
stmts_owed size target [] rows = []
stmts_owed size target (s ∷ ss) rows =
    place_owed (first_rows rows) (first_rows (later_rows rows)) (facts size target) (place size target s.form)
    ++ stmts_owed size target ss (later_rows rows)

-- the rows of the first statement, from the entry rows and the facts
abbrev pub entry_owed : ℕ → Bool → List (List Row) → List Owed
entry_owed size target rows = map (owed (entry ++ facts size target)) (first_rows rows)

-- ---- steps

-- the row doesn't name the first zero
abbrev pub is_free : Row → Bool
is_free r = list_all (λ q. not (q.0 == first_zero)) r.pairs

-- multiplier 1, and no hypothesis that names the first zero
abbrev pub are_plain : List Row → List (ℕ × ℕ) → Bool
are_plain hyps parts = list_all (λ q. (q.1 == 1) && is_free (slice_index_or hyps q.0 zero_row)) parts

-- divisor 1, and one or two plain parts
abbrev pub is_plain : List Row → Step → Bool
is_plain hyps s = (s.d == 1) && nat_le 1 (length s.parts) && nat_le (length s.parts) 2 && are_plain hyps s.parts

-- the steps that are left where the first of them is plain and shows the goal
abbrev pub by_step : List Row → Row → List Step → Option (List Step)
by_step hyps goal [] = None
by_step hyps goal (s ∷ ss) = if is_plain hyps s && holds hyps goal s then Some ss else None

-- the steps that are left: a goal that is direct takes none, another the next one
abbrev pub shown : Owed → List Step → Option (List Step)
shown w steps = if direct w.hyps w.goal then Some steps else by_step w.hyps w.goal steps

-- each in turn
abbrev pub all_shown : List Owed → List Step → Option (List Step)
all_shown [] steps = Some steps
all_shown (w ∷ ws) steps = option_and_then (all_shown ws) (shown w steps)
