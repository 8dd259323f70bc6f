-- What is tested behind the parts of a straight-line program.
use Rattle.std.specs.Prelude.{◌≡◌, ℕ, ◌≤◌, List, [], length}
use Rattle.cv_core.specs.declared.program.Stmt.{Stmt}
use Rattle.cv_text.specs.declared.narrow.Locals.{Locals}
use Rattle.cv_text.specs.Given.{from}

abbrev pub IsWhole : List ℕ → ℕ → Locals → List Stmt → Type 0
IsWhole text at locals stmts = (from text at ≡ []) × (locals.buffer ≡ locals.pointer → ⊥) × (length stmts ≤ 100)
