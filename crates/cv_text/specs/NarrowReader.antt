-- Reading a straight-line program.
use Rattle.std.specs.Prelude.{ℕ, List, [], ◌∷◌, ◌++◌, codes, Result, Ok, Err, Some, true, false, if◌then◌else◌}
use Rattle.cv_core.specs.declared.program.Program.{Program}
use Rattle.cv_core.specs.declared.program.Proc.{Proc}
use Rattle.cv_core.specs.declared.program.ResultKind.TheVariants as answer
use Rattle.cv_core.specs.declared.program.Local.{Local}
use Rattle.cv_core.specs.declared.program.Stmt.{Stmt}
use Rattle.cv_core.specs.declared.program.Form.{Form}
use Rattle.cv_core.specs.declared.program.Form.TheVariants as form
use Rattle.cv_core.specs.declared.program.Operand.TheVariants as operand
use Rattle.cv_core.specs.declared.program.AnyOperand.TheVariants as any
use Rattle.cv_reading.specs.Reading.{Reading, on, made, many, ◌&◌, ◌▷◌, ◌◁◌}
use Rattle.cv_text.specs.declared.token.Key.TheVariants as key
use Rattle.cv_text.specs.declared.token.Sign.TheVariants as sign
use Rattle.cv_text.specs.declared.narrow.Locals.{Locals}
use Rattle.cv_text.specs.declared.narrow.Step.{Step}
use Rattle.cv_text.specs.declared.narrow.Step.TheVariants as step
use Rattle.cv_text.specs.Tokens.{Lexeme}
use Rattle.cv_text.specs.Reader.{is_word, is_mark, the_name, the_word, the_mark, a_name, count, size, number, semicolon}
use Rattle.cv_text.specs.Narrow.{buffer_local, pointer_local, main_alone, no_contract}

-- ---- statements

unfoldable pub store : List ℕ → Reading Lexeme Form
store p = the_name p ▷ the_mark sign.Comma ▷ made (λ k. form.Store p (operand.Number k)) (number ◁ semicolon)

unfoldable pub address : List ℕ → List ℕ → Reading Lexeme Form
address b p = made (λ _. form.Address p b) (the_name b ▷ semicolon)

unfoldable pub shift : List ℕ → Reading Lexeme Form
shift p = the_name p ▷ the_mark sign.Plus ▷ made (λ k. form.Shift p p (operand.Number k)) (number ◁ semicolon)

unfoldable pub assignment : List ℕ → List ℕ → Reading Lexeme Form
assignment b p = the_name p ▷ the_mark sign.Assign ▷ on (is_mark sign.And) (address b p) (shift p)

unfoldable pub pointer_move : List ℕ → List ℕ → Reading Lexeme Form
pointer_move b p = on (is_word key.Store) (store p) (assignment b p)

unfoldable pub number_return : Reading Lexeme Form
number_return = made (λ k. form.Return (Some (any.Operand (operand.Number k)))) (number ◁ semicolon)

-- a move, or the return at the end
unfoldable pub last_or_move : List ℕ → List ℕ → Reading Lexeme (Result Form Form)
last_or_move b p = on (is_word key.Return) (made Err number_return) (made Ok (pointer_move b p))

-- what a step of the code is
abbrev pub step_of : Step → Result Stmt Stmt
step_of (step.Move s) = Ok s
step_of (step.Last s) = Err s

abbrev pub at_line : ℕ × Result Form Form → Result Stmt Stmt
at_line v = elim v.1 [ Ok f ↦ Ok (record { line = v.0; form = f }) | Err f ↦ Err (record { line = v.0; form = f }) ]

unfoldable pub statement : List ℕ → List ℕ → Reading Lexeme (Result Stmt Stmt)
statement b p = made at_line (count & λ _. the_mark sign.Colon ▷ last_or_move b p)

abbrev pub all_of : List Stmt × Stmt → List Stmt
all_of v = v.0 ++ v.1 ∷ []

-- those behind the ones before
abbrev pub statements_onto : List ℕ → List ℕ → List Stmt → Reading Lexeme (List Stmt)
statements_onto b p before = made (λ v. before ++ all_of v) (many (statement b p))

unfoldable pub statements : List ℕ → List ℕ → Reading Lexeme (List Stmt)
statements b p = statements_onto b p []

-- ---- locals

unfoldable pub buffer : Reading Lexeme (List ℕ × ℕ)
buffer = a_name & λ _. size ◁ semicolon

unfoldable pub pointer : Reading Lexeme (List ℕ)
pointer = a_name ◁ semicolon

abbrev pub with_buffer_first : (List ℕ × ℕ) × List ℕ → Locals
with_buffer_first v = record { buffer = v.0.0; size = v.0.1; pointer = v.1; buffer_first = true }

abbrev pub with_pointer_first : List ℕ × (List ℕ × ℕ) → Locals
with_pointer_first v = record { buffer = v.1.0; size = v.1.1; pointer = v.0; buffer_first = false }

unfoldable pub buffer_first : Reading Lexeme Locals
buffer_first = made with_buffer_first (buffer & λ _. the_word key.Ptr ▷ pointer)

unfoldable pub pointer_first : Reading Lexeme Locals
pointer_first = made with_pointer_first (the_word key.Ptr ▷ pointer & λ _. the_word key.Buf ▷ buffer)

unfoldable pub locals : Reading Lexeme Locals
locals = on (is_word key.Buf) buffer_first pointer_first

abbrev pub locals_of : Locals → List Local
locals_of l = if l.buffer_first then buffer_local l.buffer l.size ∷ pointer_local l.pointer ∷ [] else pointer_local l.pointer ∷ buffer_local l.buffer l.size ∷ []

-- ---- the program

unfoldable pub body : Reading Lexeme (Locals × List Stmt)
body = locals & λ l. statements l.buffer l.pointer ◁ the_mark sign.CloseBrace

unfoldable pub heading_and_body : Reading Lexeme (Locals × List Stmt)
heading_and_body = the_mark sign.Colon ▷ the_word key.Proc ▷ the_word key.Int ▷ the_name (codes "main") ▷ the_mark sign.Open ▷ the_mark sign.Close ▷ the_mark sign.OpenBrace ▷ body

unfoldable pub narrow : Reading Lexeme (ℕ × (Locals × List Stmt))
narrow = count & λ _. heading_and_body

abbrev pub program_of : ℕ × (Locals × List Stmt) → Program
program_of v = main_alone v.0 (locals_of v.1.0) v.1.1

abbrev pub main_of : ℕ × (Locals × List Stmt) → Proc
main_of v = record { line = v.0; answer = answer.Int; name = codes "main"; formals = []; contract = no_contract; body = Some (record { locals = locals_of v.1.0; stmts = v.1.1 }) }
