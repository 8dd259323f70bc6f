-- Where a walk over the objects of procedures can go on: it finds from there what it finds from the start.
use Rattle.std.specs.Prelude.{List, Bool, length, map, drop, suc, ℕ, ◌-◌, ◌≡◌, ◌≤◌}
use Rattle.std.specs.List.{flat_map}
use Rattle.cv_core.specs.Names.{is_pointer_cell, objects_of}
use Rattle.cv_core.specs.declared.program.Program.{Program}
use Rattle.cv_points.specs.Holders.{cell_number, cells, first_holder}
use Rattle.cv_points.specs.Walks.{found, walk, word}
use Rattle.cv_points.specs.declared.cursor.Cursor.{Cursor}
use Rattle.cv_points.specs.declared.cursor.Step.{Step}
use Rattle.cv_points.specs.declared.cursor.Step.TheVariants as step

-- for each object of the procedures from the number i on, whether it is a pointer cell
abbrev pub cells_behind : Program → ℕ → List Bool
cells_behind P i = map (λ l. is_pointer_cell l.body) (flat_map objects_of (drop i P.procs))

pub record IsCursor (P : Program) (c : Cursor) : Type 0 where
  pub base : c.base ≡ word (first_holder P (length P.procs))
  pub fewer : c.cells ≤ c.objects
  pub onward : (s : ℕ) → c.objects ≤ s → found (walk (cells_behind P c.proc) (s - c.objects) c.cells) ≡ cell_number (cells P) s

-- the object s is found, or stands behind the procedure, and then the cursor is at the next one
abbrev pub IsStep : Program → Cursor → ℕ → Step → Type 0
IsStep P c s (step.Found n) = n ≡ cell_number (cells P) s
IsStep P c s (step.Behind d) = IsCursor P d × (d.objects ≤ s) × (d.proc ≡ suc c.proc)
