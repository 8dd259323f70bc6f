-- Straight-line programs.
use Rattle.std.specs.Prelude.{◌≡◌, ℕ, ◌≤◌, List, [], ◌∷◌, length, codes, Some, ◌⊎◌}
use Rattle.cv_core.specs.declared.program.Program.{Program}
use Rattle.cv_core.specs.declared.program.Contract.{Contract}
use Rattle.cv_core.specs.declared.program.Local.{Local}
use Rattle.cv_core.specs.declared.program.LocalBody.TheVariants as local
use Rattle.cv_core.specs.declared.program.VarKind.TheVariants as kind
use Rattle.cv_core.specs.declared.program.ResultKind.TheVariants as answer
use Rattle.cv_core.specs.declared.program.Stmt.{Stmt}
use Rattle.cv_core.specs.declared.program.Form.{Form}
use Rattle.cv_core.specs.declared.program.Form.TheVariants as form
use Rattle.cv_core.specs.declared.program.Operand.TheVariants as operand
use Rattle.cv_core.specs.declared.program.AnyOperand.TheVariants as any

-- p = &b, p = p + K, or store p, K
abbrev pub IsMove : List ℕ → List ℕ → Form → Type 0
IsMove b p (form.Address x a) = (x ≡ p) × (a ≡ b)
IsMove b p (form.Shift x y (operand.Number k)) = (x ≡ p) × (y ≡ p)
IsMove b p (form.Store x (operand.Number k)) = x ≡ p
IsMove b p f = ⊥

-- return K
abbrev pub IsReturn : Form → Type 0
IsReturn (form.Return (Some (any.Operand (operand.Number k)))) = Unit {0}
IsReturn f = ⊥

-- moves, and a return at the end
abbrev pub IsStraight : List ℕ → List ℕ → List Stmt → Type 0
IsStraight b p [] = ⊥
IsStraight b p (s ∷ []) = IsReturn s.form
IsStraight b p (s ∷ t ∷ rest) = IsMove b p s.form × IsStraight b p (t ∷ rest)

abbrev pub no_contract : Contract
no_contract = record { listed = []; needs = []; changes = []; gives = [] }

-- the program whose one part is an `int main()` without a contract
abbrev pub main_alone : ℕ → List Local → List Stmt → Program
main_alone line locals stmts = record {
  globals = [];
  literals = [];
  procs = record { line = line; answer = answer.Int; name = codes "main"; formals = []; contract = no_contract; body = Some (record { locals = locals; stmts = stmts }) } ∷ [];
}

abbrev pub buffer_local : List ℕ → ℕ → Local
buffer_local name size = record { name = name; body = local.Buffer size }

abbrev pub pointer_local : List ℕ → Local
pointer_local name = record { name = name; body = local.Var kind.Ptr }

-- A straight-line program: main alone, one buffer and one pointer of different names, and at most 100 statements that
-- move the pointer and store through it up to the return.
pub record IsNarrow (P : Program) : Type 0 where
  pub line : ℕ
  pub buffer : List ℕ
  pub size : ℕ
  pub pointer : List ℕ
  pub stmts : List Stmt
  pub parts : (P ≡ main_alone line (buffer_local buffer size ∷ pointer_local pointer ∷ []) stmts) ⊎ (P ≡ main_alone line (pointer_local pointer ∷ buffer_local buffer size ∷ []) stmts)
  pub two_names : buffer ≡ pointer → ⊥
  pub few : length stmts ≤ 100
  pub straight : IsStraight buffer pointer stmts
