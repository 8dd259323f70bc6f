-- The one printed form of a program: each global, literal, heading, clause, brace, local and statement on a line of its own.
use Rattle.std.specs.Prelude.{ℕ, Bool, true, false, List, [], ◌∷◌, ◌++◌, codes, decimal, flat_map, Option, Some, None}
use Rattle.std.specs.Fmt.{signed_decimal}
use Rattle.cv_core.specs.Grammar.{Tree}
use Rattle.cv_core.specs.declared.program.GlobalDecl.{GlobalDecl}
use Rattle.cv_core.specs.declared.program.GlobalBody.{GlobalBody}
use Rattle.cv_core.specs.declared.program.GlobalBody.TheVariants as global
use Rattle.cv_core.specs.declared.program.Literal.{Literal}
use Rattle.cv_core.specs.declared.program.Proc.{Proc}
use Rattle.cv_core.specs.declared.program.ProcBody.{ProcBody}
use Rattle.cv_core.specs.declared.program.ResultKind.{ResultKind}
use Rattle.cv_core.specs.declared.program.ResultKind.TheVariants as answer
use Rattle.cv_core.specs.declared.program.VarKind.{VarKind}
use Rattle.cv_core.specs.declared.program.VarKind.TheVariants as kind
use Rattle.cv_core.specs.declared.program.Formal.{Formal}
use Rattle.cv_core.specs.declared.program.Local.{Local}
use Rattle.cv_core.specs.declared.program.LocalBody.{LocalBody}
use Rattle.cv_core.specs.declared.program.LocalBody.TheVariants as local
use Rattle.cv_core.specs.declared.program.Stmt.{Stmt}
use Rattle.cv_core.specs.declared.program.Form.{Form}
use Rattle.cv_core.specs.declared.program.Form.TheVariants as form
use Rattle.cv_core.specs.declared.program.Operand.{Operand}
use Rattle.cv_core.specs.declared.program.Operand.TheVariants as operand
use Rattle.cv_core.specs.declared.program.AnyOperand.{AnyOperand}
use Rattle.cv_core.specs.declared.program.AnyOperand.TheVariants as any
use Rattle.cv_text.specs.PrintedContract.{joined, contract_text, rel_text}

-- ---- statements

abbrev pub operand_text : Operand → List ℕ
operand_text (operand.Var x) = x
operand_text (operand.Number z) = signed_decimal z

abbrev pub any_text : AnyOperand → List ℕ
any_text (any.Operand e) = operand_text e
any_text any.Null = codes "null"

abbrev pub call_text : List ℕ → List AnyOperand → List ℕ
call_text f args = codes "call " ++ f ++ codes "(" ++ joined (codes ", ") any_text args ++ codes ");"

abbrev pub zero_test_text : Bool → List ℕ
zero_test_text true = codes " == 0 goto "
zero_test_text false = codes " != 0 goto "

abbrev pub call_into_text : Option (List ℕ) → List ℕ → List AnyOperand → List ℕ
call_into_text None f args = call_text f args
call_into_text (Some x) f args = x ++ codes " = " ++ call_text f args

abbrev pub copy_text : List ℕ → Option (List ℕ) → List ℕ
copy_text p (Some q) = p ++ codes " = " ++ q ++ codes ";"
copy_text p None = p ++ codes " = null;"

abbrev pub return_text : Option AnyOperand → List ℕ
return_text None = codes "return;"
return_text (Some e) = codes "return " ++ any_text e ++ codes ";"

abbrev pub form_text : Form → List ℕ
form_text (form.Assign x e) = x ++ codes " = " ++ operand_text e ++ codes ";"
form_text (form.Sum x e f) = x ++ codes " = " ++ operand_text e ++ codes " + " ++ operand_text f ++ codes ";"
form_text (form.Minus x e f) = x ++ codes " = " ++ operand_text e ++ codes " - " ++ operand_text f ++ codes ";"
form_text (form.Product x k e) = x ++ codes " = " ++ signed_decimal k ++ codes " * " ++ operand_text e ++ codes ";"
form_text (form.Quotient x e k) = x ++ codes " = " ++ operand_text e ++ codes " / " ++ signed_decimal k ++ codes ";"
form_text (form.Remainder x e k) = x ++ codes " = " ++ operand_text e ++ codes " % " ++ signed_decimal k ++ codes ";"
form_text (form.CopyPtr p q) = copy_text p q
form_text (form.Address p a) = p ++ codes " = &" ++ a ++ codes ";"
form_text (form.Shift p q e) = p ++ codes " = " ++ q ++ codes " + " ++ operand_text e ++ codes ";"
form_text (form.Load x p) = x ++ codes " = load " ++ p ++ codes ";"
form_text (form.Store p e) = codes "store " ++ p ++ codes ", " ++ operand_text e ++ codes ";"
form_text (form.Get x w) = x ++ codes " = get " ++ w ++ codes ";"
form_text (form.Put w e) = codes "put " ++ w ++ codes ", " ++ any_text e ++ codes ";"
form_text (form.Diff x p q) = x ++ codes " = diff " ++ p ++ codes ", " ++ q ++ codes ";"
form_text (form.Goto to) = codes "goto " ++ decimal to ++ codes ";"
form_text (form.If e r f to) = codes "if " ++ operand_text e ++ rel_text r ++ any_text f ++ codes " goto " ++ decimal to ++ codes ";"
form_text (form.IfByte p equal to) = codes "if load " ++ p ++ zero_test_text equal ++ decimal to ++ codes ";"
form_text (form.Call into f args) = call_into_text into f args
form_text (form.Return e) = return_text e

abbrev pub statement_text : Stmt → List ℕ
statement_text s = decimal s.line ++ codes ": " ++ form_text s.form ++ 10 ∷ []

-- ---- declarations

abbrev pub kind_text : VarKind → List ℕ
kind_text kind.Int = codes "int "
kind_text kind.Char = codes "char "
kind_text kind.Ptr = codes "ptr "
kind_text kind.Pptr = codes "pptr "
kind_text kind.Iptr = codes "iptr "

abbrev pub local_phrase : List ℕ → LocalBody → List ℕ
local_phrase x (local.Var k) = kind_text k ++ x ++ codes ";"
local_phrase x (local.Buffer n) = codes "buf " ++ x ++ codes " " ++ decimal n ++ codes ";"
local_phrase x local.PointerCell = codes "pcell " ++ x ++ codes ";"
local_phrase x local.IntCell = codes "icell " ++ x ++ codes ";"

abbrev pub local_text : Local → List ℕ
local_text l = local_phrase l.name l.body ++ 10 ∷ []

abbrev pub global_phrase : List ℕ → GlobalBody → List ℕ
global_phrase x (global.Buffer n) = codes "global buf " ++ x ++ codes " " ++ decimal n ++ codes ";"
global_phrase x global.Pointer = codes "global ptr " ++ x ++ codes ";"
global_phrase x global.Int = codes "global int " ++ x ++ codes ";"

abbrev pub global_text : GlobalDecl → List ℕ
global_text g = global_phrase g.name g.body ++ 10 ∷ []

-- the bytes, with a blank behind the last one
abbrev pub bytes_text : List ℕ → List ℕ
bytes_text [] = []
bytes_text (b ∷ bs) = joined (codes ", ") decimal (b ∷ bs) ++ codes " "

abbrev pub literal_text : Literal → List ℕ
literal_text l = codes "literal " ++ l.name ++ codes " { " ++ bytes_text l.bytes ++ codes "};" ++ 10 ∷ []

abbrev pub answer_text : ResultKind → List ℕ
answer_text answer.Void = codes "void "
answer_text answer.Int = codes "int "
answer_text answer.Char = codes "char "
answer_text answer.Ptr = codes "ptr "

abbrev pub formal_text : Formal → List ℕ
formal_text f = kind_text f.kind ++ f.name

abbrev pub heading_text : Proc → List ℕ
heading_text f = decimal f.line ++ codes ": proc " ++ answer_text f.answer ++ f.name ++ codes "(" ++ joined (codes ", ") formal_text f.formals ++ codes ")" ++ 10 ∷ []

abbrev pub braced_text : ProcBody → List ℕ
braced_text b = codes "{" ++ 10 ∷ [] ++ flat_map local_text b.locals ++ flat_map statement_text b.stmts ++ codes "}" ++ 10 ∷ []

abbrev pub body_text : Option ProcBody → List ℕ
body_text None = codes "extern;" ++ 10 ∷ []
body_text (Some b) = braced_text b

unfoldable pub proc_text : Proc → List ℕ
proc_text f = heading_text f ++ contract_text f.contract ++ body_text f.body

unfoldable pub program_text : Tree → List ℕ
program_text p = flat_map global_text p.globals ++ flat_map literal_text p.literals ++ flat_map proc_text p.procs
