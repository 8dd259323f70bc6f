-- The rules and the targets of all statements, looked up once.
use Rattle.std.specs.Prelude.{List, None, Option, Some, [], if◌then◌else◌, slice_get, slice_index_or, suc, ℕ, ◌∷◌, ◌≡◌}
use Rattle.cv_core.specs.Names.{stmts_of}
use Rattle.cv_core.specs.declared.program.Program.{Program}
use Rattle.cv_core.specs.declared.program.Stmt.{Stmt}
use Rattle.cv_ppts.specs.Plain.{plain_rule}
use Rattle.cv_ppts.specs.Setting.{Setting, allocates, new_target}
use Rattle.cv_ppts.specs.declared.sets.Rule.{Rule}

-- the targets of statements, of which the first is t
abbrev pub later_targets : Program → ℕ → List Stmt → List ℕ
later_targets P t [] = []
later_targets P t (x ∷ xs) = t ∷ later_targets P (if allocates P x.form then suc t else t) xs

pub record IsPlan (s : Setting) (rules : List (Option Rule)) (targets : List ℕ) : Type 0 where
  pub rule : (k : ℕ) (x : Stmt) → slice_get (stmts_of s.proc.body) k ≡ Some x → slice_index_or rules k None ≡ plain_rule s x.form
  pub target : (k : ℕ) (x : Stmt) → slice_get (stmts_of s.proc.body) k ≡ Some x → slice_index_or targets k 0 ≡ new_target s k
