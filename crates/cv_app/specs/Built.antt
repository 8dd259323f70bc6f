-- What `check` treats of a program today: the parts of a straight-line program.
use Rattle.std.specs.Prelude.{ℕ, suc, Bool, true, false, not, ◌&&◌, ◌==◌, nat_lt, List, [], ◌∷◌, ◌++◌, length, map, Option, Some, None, if◌then◌else◌}
use Rattle.std.specs.Str.{bytes_eq}
use Rattle.cv_core.specs.Headings.{gives_int, is_main}
use Rattle.cv_core.specs.Names.{Name}
use Rattle.cv_core.specs.Shape.{is_last}
use Rattle.cv_core.specs.declared.program.Program.{Program}
use Rattle.cv_core.specs.declared.program.Proc.{Proc}
use Rattle.cv_core.specs.declared.program.ProcBody.{ProcBody}
use Rattle.cv_core.specs.declared.program.Contract.{Contract}
use Rattle.cv_core.specs.declared.program.Local.{Local}
use Rattle.cv_core.specs.declared.program.LocalBody.{LocalBody}
use Rattle.cv_core.specs.declared.program.LocalBody.TheVariants as local
use Rattle.cv_core.specs.declared.program.VarKind.TheVariants as kind
use Rattle.cv_core.specs.declared.program.Stmt.{Stmt}
use Rattle.cv_core.specs.declared.program.Form.{Form}
use Rattle.cv_core.specs.declared.program.Form.TheVariants as form
use Rattle.cv_core.specs.declared.program.Operand.TheVariants as operand
use Rattle.cv_core.specs.declared.program.AnyOperand.TheVariants as any

-- a part of a program: its line, and whether it is built
abbrev pub Part : Type 0
Part = ℕ × Bool

-- the line of the first part that isn't built
abbrev pub first_unbuilt : List Part → Option ℕ
first_unbuilt [] = None
first_unbuilt (part ∷ rest) = if part.1 then first_unbuilt rest else Some part.0

-- ---- statements

-- p = &b, p = p + K, or store p, K
abbrev pub is_move : Name → Name → Form → Bool
is_move b p (form.Address x a) = bytes_eq x p && bytes_eq a b
is_move b p (form.Shift x y (operand.Number k)) = bytes_eq x p && bytes_eq y p
is_move b p (form.Store x (operand.Number k)) = bytes_eq x p
is_move b p f = false

-- return K
abbrev pub is_return : Form → Bool
is_return (form.Return (Some (any.Operand (operand.Number k)))) = true
is_return f = false

-- the last statement returns, and each other one moves the pointer p or stores through it
abbrev pub is_built_form : Name → Name → Bool → Form → Bool
is_built_form b p true f = is_return f
is_built_form b p false f = is_move b p f

-- the statements from the one with this number on, from 0: none behind the 100th is built
abbrev pub stmt_parts : Name → Name → ℕ → List Stmt → List Part
stmt_parts b p number [] = []
stmt_parts b p number (s ∷ rest) = (s.line, nat_lt number 100 && is_built_form b p (is_last rest) s.form) ∷ stmt_parts b p (suc number) rest

-- ---- procedures

-- int NAME(), where NAME is main
abbrev pub is_built_heading : Proc → Bool
is_built_heading f = gives_int f.answer && is_main f.name && (length f.formals == 0)

-- no clause
abbrev pub is_empty_contract : Contract → Bool
is_empty_contract c = (length c.listed == 0) && (length c.needs == 0) && (length c.changes == 0) && (length c.gives == 0)

abbrev pub names_of_two : Local → LocalBody → Local → LocalBody → Option (Name × Name)
names_of_two l (local.Buffer n) m (local.Var kind.Ptr) = Some (l.name, m.name)
names_of_two l (local.Var kind.Ptr) m (local.Buffer n) = Some (m.name, l.name)
names_of_two l x m y = None

-- the names of the buffer and of the pointer, where the locals are one of each
abbrev pub two_names : List Local → Option (Name × Name)
two_names (l ∷ m ∷ []) = names_of_two l l.body m m.body
two_names locals = None

-- the locals, which are a buffer and a pointer of different names, and the statements, where there are such locals
abbrev pub inner_parts : ℕ → List Stmt → Option (Name × Name) → List Part
inner_parts line stmts None = (line, false) ∷ []
inner_parts line stmts (Some names) = (line, not (bytes_eq names.0 names.1)) ∷ stmt_parts names.0 names.1 0 stmts

-- a body with a statement
abbrev pub body_parts : ℕ → Option ProcBody → List Part
body_parts line None = (line, false) ∷ []
body_parts line (Some b) = (line, not (length b.stmts == 0)) ∷ inner_parts line b.stmts (two_names b.locals)

-- what stands before the statements has the line of the procedure
abbrev pub proc_parts : Proc → List Part
proc_parts f = (f.line, is_built_heading f) ∷ (f.line, is_empty_contract f.contract) ∷ body_parts f.line f.body

-- no procedure is built but the first
abbrev pub procs_parts : List Proc → List Part
procs_parts [] = (1, false) ∷ []
procs_parts (f ∷ fs) = proc_parts f ++ map (λ g. (g.line, false)) fs

-- ---- programs

-- The parts of a program in the order of its text. Globals and literals have no line of their own, and count for line 1.
abbrev pub parts : Program → List Part
parts P = (1, length P.globals == 0) ∷ (1, length P.literals == 0) ∷ procs_parts P.procs

-- the line of the first part of a program that isn't built
abbrev pub unbuilt_line : Program → Option ℕ
unbuilt_line P = first_unbuilt (parts P)
