-- Reading declarations and bodies.
use Rattle.std.specs.Prelude.{ℕ, Bool, true, false, List, [], ◌++◌, Option, Some, None, Result}
use Rattle.cv_core.specs.declared.program.GlobalDecl.{GlobalDecl}
use Rattle.cv_core.specs.declared.program.GlobalBody.TheVariants as global_body
use Rattle.cv_core.specs.declared.program.Literal.{Literal}
use Rattle.cv_core.specs.declared.program.ResultKind.{ResultKind}
use Rattle.cv_core.specs.declared.program.ResultKind.TheVariants as result_kind
use Rattle.cv_core.specs.declared.program.VarKind.{VarKind}
use Rattle.cv_core.specs.declared.program.VarKind.TheVariants as var_kind
use Rattle.cv_core.specs.declared.program.Formal.{Formal}
use Rattle.cv_core.specs.declared.program.Local.{Local}
use Rattle.cv_core.specs.declared.program.LocalBody.TheVariants as local_body
use Rattle.cv_core.specs.declared.program.Stmt.{Stmt}
use Rattle.cv_core.specs.declared.program.ProcBody.{ProcBody}
use Rattle.cv_reading.specs.Reading.{Reading, token, made, on, ◌&◌, ◌▷◌, ◌◁◌}
use Rattle.cv_reading.specs.Lists.{◌⇒◌, next_item, items_onto, closed_list, each_onto, each_next}
use Rattle.cv_text.specs.declared.token.Key.{Key}
use Rattle.cv_text.specs.declared.token.Key.TheVariants as key
use Rattle.cv_text.specs.declared.token.Sign.TheVariants as sign
use Rattle.cv_text.specs.declared.declarations.LocalStart.{LocalStart}
use Rattle.cv_text.specs.declared.declarations.LocalStart.TheVariants as start
use Rattle.cv_text.specs.Tokens.{Lexeme, word, digits}
use Rattle.cv_text.specs.Grammar.{variables_of, is_pointer}
use Rattle.cv_text.specs.Reader.{is_word, is_mark, the_word, the_mark, a_name, digits_within, size, semicolon}
use Rattle.cv_text.specs.StatementReader.{ended_name, statement}

-- ---- kinds

abbrev pub kind_by : Key → Option VarKind
kind_by key.Int = Some var_kind.Int
kind_by key.Char = Some var_kind.Char
kind_by key.Ptr = Some var_kind.Ptr
kind_by key.Pptr = Some var_kind.Pptr
kind_by key.Iptr = Some var_kind.Iptr
kind_by k = None

abbrev pub kind_of : Lexeme → Option VarKind
kind_of (word k) = kind_by k
kind_of t = None

unfoldable pub kind : Reading Lexeme VarKind
kind = token kind_of

abbrev pub answer_by : Key → Option ResultKind
answer_by key.Void = Some result_kind.Void
answer_by key.Int = Some result_kind.Int
answer_by key.Char = Some result_kind.Char
answer_by key.Ptr = Some result_kind.Ptr
answer_by k = None

abbrev pub answer_of : Lexeme → Option ResultKind
answer_of (word k) = answer_by k
answer_of t = None

-- the kind of a result
unfoldable pub answer : Reading Lexeme ResultKind
answer = token answer_of

-- ---- globals

unfoldable pub sized_name : Reading Lexeme (List ℕ × ℕ)
sized_name = a_name & λ _. size ◁ semicolon

abbrev pub global_buffer : List ℕ × ℕ → GlobalDecl
global_buffer v = record { name = v.0; body = global_body.Buffer v.1 }

abbrev pub global_pointer : List ℕ → GlobalDecl
global_pointer x = record { name = x; body = global_body.Pointer }

abbrev pub global_int : List ℕ → GlobalDecl
global_int x = record { name = x; body = global_body.Int }

-- behind its word
unfoldable pub global_rest : Reading Lexeme GlobalDecl
global_rest = on (is_word key.Buf) (made global_buffer sized_name) (on (is_word key.Ptr) (made global_pointer ended_name) (made global_int (the_word key.Int ▷ ended_name)))

unfoldable pub global : Reading Lexeme GlobalDecl
global = the_word key.Global ▷ global_rest

unfoldable pub next_global : Reading Lexeme (Result GlobalDecl (Unit {0}))
next_global = each_next (is_word key.Global) global

unfoldable pub globals_onto : List GlobalDecl → Reading Lexeme (List GlobalDecl)
globals_onto before = each_onto (is_word key.Global) global before

unfoldable pub globals : Reading Lexeme (List GlobalDecl)
globals = globals_onto []

-- ---- literals

unfoldable pub byte : Reading Lexeme ℕ
byte = digits_within 0 256

unfoldable pub next_byte : Reading Lexeme (Result ℕ (Unit {0}))
next_byte = next_item (is_mark sign.CloseBrace) (the_mark sign.Comma) byte

-- the bytes behind these, and the brace that closes them
unfoldable pub bytes_onto : List ℕ → Reading Lexeme (List ℕ)
bytes_onto before = items_onto (is_mark sign.CloseBrace) (the_mark sign.Comma) byte before

unfoldable pub bytes : Reading Lexeme (List ℕ)
bytes = closed_list (is_mark sign.CloseBrace) (the_mark sign.Comma) byte

abbrev pub literal_of : List ℕ × List ℕ → Literal
literal_of v = record { name = v.0; bytes = v.1 }

unfoldable pub literal : Reading Lexeme Literal
literal = the_word key.Literal ▷ made literal_of (a_name & λ _. the_mark sign.OpenBrace ▷ bytes ◁ semicolon)

unfoldable pub next_literal : Reading Lexeme (Result Literal (Unit {0}))
next_literal = each_next (is_word key.Literal) literal

unfoldable pub literals_onto : List Literal → Reading Lexeme (List Literal)
literals_onto before = each_onto (is_word key.Literal) literal before

unfoldable pub literals : Reading Lexeme (List Literal)
literals = literals_onto []

-- ---- formals

abbrev pub formal_of : VarKind × List ℕ → Formal
formal_of v = record { kind = v.0; name = v.1 }

unfoldable pub formal : Reading Lexeme Formal
formal = made formal_of (kind & λ _. a_name)

unfoldable pub next_formal : Reading Lexeme (Result Formal (Unit {0}))
next_formal = next_item (is_mark sign.Close) (the_mark sign.Comma) formal

-- the formals behind these, and the bracket that closes them
unfoldable pub formals_onto : List Formal → Reading Lexeme (List Formal)
formals_onto before = items_onto (is_mark sign.Close) (the_mark sign.Comma) formal before

unfoldable pub formals : Reading Lexeme (List Formal)
formals = closed_list (is_mark sign.Close) (the_mark sign.Comma) formal

-- ---- locals

abbrev pub start_by : Key → Option LocalStart
start_by key.Int = Some (start.Variable var_kind.Int)
start_by key.Char = Some (start.Variable var_kind.Char)
start_by key.Ptr = Some (start.Variable var_kind.Ptr)
start_by key.Pptr = Some (start.Variable var_kind.Pptr)
start_by key.Iptr = Some (start.Variable var_kind.Iptr)
start_by key.Buf = Some start.Buffer
start_by key.Pcell = Some start.PointerCell
start_by key.Icell = Some start.IntCell
start_by k = None

abbrev pub start_of : Lexeme → Option LocalStart
start_of (word k) = start_by k
start_of t = None

abbrev pub is_some : {A : Type 0} → Option A → Bool
is_some (Some a) = true
is_some None = false

abbrev pub begins_local : Lexeme → Bool
begins_local t = is_some (start_of t)

abbrev pub variable : VarKind → List ℕ → Local
variable k x = record { name = x; body = local_body.Var k }

abbrev pub local_buffer : List ℕ × ℕ → Local
local_buffer v = record { name = v.0; body = local_body.Buffer v.1 }

abbrev pub pointer_cell : List ℕ → Local
pointer_cell x = record { name = x; body = local_body.PointerCell }

abbrev pub int_cell : List ℕ → Local
int_cell x = record { name = x; body = local_body.IntCell }

-- behind its word
abbrev pub local_rest : LocalStart → Reading Lexeme Local
local_rest (start.Variable k) = made (variable k) ended_name
local_rest start.Buffer = made local_buffer sized_name
local_rest start.PointerCell = made pointer_cell ended_name
local_rest start.IntCell = made int_cell ended_name

unfoldable pub local : Reading Lexeme Local
local = token start_of ⇒ local_rest

unfoldable pub next_local : Reading Lexeme (Result Local (Unit {0}))
next_local = each_next begins_local local

unfoldable pub locals_onto : List Local → Reading Lexeme (List Local)
locals_onto before = each_onto begins_local local before

unfoldable pub locals : Reading Lexeme (List Local)
locals = locals_onto []

-- ---- bodies

abbrev pub is_digits : Lexeme → Bool
is_digits (digits ds) = true
is_digits t = false

unfoldable pub next_statement : (List ℕ → Bool) → Reading Lexeme (Result Stmt (Unit {0}))
next_statement pointers = each_next is_digits (statement pointers)

unfoldable pub statements_onto : (List ℕ → Bool) → List Stmt → Reading Lexeme (List Stmt)
statements_onto pointers before = each_onto is_digits (statement pointers) before

unfoldable pub statements : (List ℕ → Bool) → Reading Lexeme (List Stmt)
statements pointers = statements_onto pointers []

-- behind the brace, where these formals are declared
unfoldable pub block : List Formal → Reading Lexeme (List Local × List Stmt)
block fs = locals & λ ls. statements (is_pointer (fs ++ variables_of ls)) ◁ the_mark sign.CloseBrace

abbrev pub no_body : Unit {0} → Option ProcBody
no_body u = None

abbrev pub body_of : List Local × List Stmt → Option ProcBody
body_of v = Some (record { locals = v.0; stmts = v.1 })

unfoldable pub body : List Formal → Reading Lexeme (Option ProcBody)
body fs = on (is_word key.Extern) (made no_body semicolon) (the_mark sign.OpenBrace ▷ made body_of (block fs))
