-- Reading a statement. `pointers` tells which names are variables of a pointer kind.
use Rattle.std.specs.Prelude.{ℕ, ◌^◌, Bool, true, false, if◌then◌else◌, List, [], ◌∷◌, Option, Some, None, Result, ℤ, pos}
use Rattle.std.specs.Str.{bytes_eq}
use Rattle.cv_core.specs.declared.program.Stmt.{Stmt}
use Rattle.cv_core.specs.declared.program.Form.{Form}
use Rattle.cv_core.specs.declared.program.Form.TheVariants as form
use Rattle.cv_core.specs.declared.program.Operand.{Operand}
use Rattle.cv_core.specs.declared.program.Operand.TheVariants as operand
use Rattle.cv_core.specs.declared.program.AnyOperand.{AnyOperand}
use Rattle.cv_core.specs.declared.program.AnyOperand.TheVariants as any
use Rattle.cv_core.specs.declared.program.Rel.{Rel}
use Rattle.cv_core.specs.declared.program.Rel.TheVariants as rel
use Rattle.cv_reading.specs.Reading.{Reading, give, token, exactly, made, choose, on, ◌&◌, ◌▷◌, ◌◁◌}
use Rattle.cv_reading.specs.Lists.{◌⇒◌, next_item, items_onto, closed_list}
use Rattle.cv_text.specs.declared.token.Key.TheVariants as key
use Rattle.cv_text.specs.declared.token.Sign.{Sign}
use Rattle.cv_text.specs.declared.token.Sign.TheVariants as sign
use Rattle.cv_text.specs.Tokens.{Lexeme, mark, digits}
use Rattle.cv_text.specs.Reader.{is_word, is_mark, the_word, the_mark, named, a_name, digits_within, count, number, semicolon}

-- ---- operands

-- a name, or a number
unfoldable pub value : Reading Lexeme Operand
value = choose named (λ x. give (operand.Var x)) (made (λ k. operand.Number k) number)

-- a name, a number, or null
unfoldable pub any_value : Reading Lexeme AnyOperand
any_value = on (is_word key.Null) (give any.Null) (made (λ e. any.Operand e) value)

unfoldable pub ended_value : Reading Lexeme Operand
ended_value = value ◁ semicolon

unfoldable pub ended_name : Reading Lexeme (List ℕ)
ended_name = a_name ◁ semicolon

-- the number by which is divided
unfoldable pub ended_divisor : Reading Lexeme ℤ
ended_divisor = made (λ n. pos n) (digits_within 1 (2 ^ 31)) ◁ semicolon

-- ---- comparisons

abbrev pub relation_by : Sign → Option Rel
relation_by sign.Equal = Some rel.Eq
relation_by sign.NotEqual = Some rel.Ne
relation_by sign.Less = Some rel.Lt
relation_by sign.AtMost = Some rel.Le
relation_by sign.Greater = Some rel.Gt
relation_by sign.AtLeast = Some rel.Ge
relation_by s = None

abbrev pub relation_of : Lexeme → Option Rel
relation_of (mark s) = relation_by s
relation_of t = None

unfoldable pub relation : Reading Lexeme Rel
relation = token relation_of

abbrev pub equality_by : Sign → Option Bool
equality_by sign.Equal = Some true
equality_by sign.NotEqual = Some false
equality_by s = None

abbrev pub equality_of : Lexeme → Option Bool
equality_of (mark s) = equality_by s
equality_of t = None

-- == or !=
unfoldable pub equality : Reading Lexeme Bool
equality = token equality_of

abbrev pub is_zero : Lexeme → Bool
is_zero (digits ds) = bytes_eq ds (48 ∷ [])
is_zero t = false

unfoldable pub zero_digit : Reading Lexeme (Unit {0})
zero_digit = exactly is_zero

unfoldable pub jump : Reading Lexeme ℕ
jump = the_word key.Goto ▷ count ◁ semicolon

-- whether null may stand behind it
abbrev pub may_be_null : Operand → Rel → Bool
may_be_null (operand.Var x) rel.Eq = true
may_be_null (operand.Var x) rel.Ne = true
may_be_null e r = false

abbrev pub compared_by : Bool → Reading Lexeme AnyOperand
compared_by true = any_value
compared_by false = made (λ e. any.Operand e) value

unfoldable pub compared : Operand → Rel → Reading Lexeme AnyOperand
compared e r = compared_by (may_be_null e r)

-- ---- statements that begin with a word, which is read already

unfoldable pub store : Reading Lexeme Form
store = made (λ v. form.Store v.0 v.1) (a_name & λ _. the_mark sign.Comma ▷ ended_value)

unfoldable pub put : Reading Lexeme Form
put = made (λ v. form.Put v.0 v.1) (a_name & λ _. the_mark sign.Comma ▷ any_value ◁ semicolon)

unfoldable pub goto : Reading Lexeme Form
goto = made (λ to. form.Goto to) (count ◁ semicolon)

unfoldable pub byte_test : Reading Lexeme Form
byte_test = made (λ v. form.IfByte v.0 v.1.0 v.1.1) (a_name & λ _. equality & λ _. zero_digit ▷ jump)

unfoldable pub comparison : Reading Lexeme Form
comparison = made (λ v. form.If v.0 v.1.0 v.1.1.0 v.1.1.1) (value & λ e. relation & λ r. compared e r & λ _. jump)

unfoldable pub branch : Reading Lexeme Form
branch = on (is_word key.Load) byte_test comparison

unfoldable pub return_rest : Reading Lexeme Form
return_rest = on (is_mark sign.Semicolon) (give (form.Return None)) (made (λ e. form.Return (Some e)) (any_value ◁ semicolon))

-- ---- calls

unfoldable pub next_argument : Reading Lexeme (Result AnyOperand (Unit {0}))
next_argument = next_item (is_mark sign.Close) (the_mark sign.Comma) any_value

-- the arguments behind these, and what closes them
unfoldable pub arguments_onto : List AnyOperand → Reading Lexeme (List AnyOperand)
arguments_onto before = items_onto (is_mark sign.Close) (the_mark sign.Comma) any_value before

unfoldable pub arguments : Reading Lexeme (List AnyOperand)
arguments = closed_list (is_mark sign.Close) (the_mark sign.Comma) any_value

unfoldable pub call : Option (List ℕ) → Reading Lexeme Form
call into = made (λ v. form.Call into v.0 v.1) (a_name & λ _. the_mark sign.Open ▷ arguments ◁ semicolon)

-- ---- assignments

-- what `x = e;` and `x = e + f;` are: by the kind of x, where e is a name
abbrev pub assigned : (List ℕ → Bool) → List ℕ → Operand → Form
assigned pointers x (operand.Number k) = form.Assign x (operand.Number k)
assigned pointers x (operand.Var y) = if pointers x then form.CopyPtr x (Some y) else form.Assign x (operand.Var y)

abbrev pub added : (List ℕ → Bool) → List ℕ → Operand → Operand → Form
added pointers x (operand.Number k) f = form.Sum x (operand.Number k) f
added pointers x (operand.Var y) f = if pointers x then form.Shift x y f else form.Sum x (operand.Var y) f

-- behind `x = e`
unfoldable pub after_value : (List ℕ → Bool) → List ℕ → Operand → Reading Lexeme Form
after_value pointers x e = on (is_mark sign.Plus) (made (λ f. added pointers x e f) ended_value)
    (on (is_mark sign.Minus) (made (λ f. form.Minus x e f) ended_value)
    (on (is_mark sign.Slash) (made (λ k. form.Quotient x e k) ended_divisor)
    (on (is_mark sign.Percent) (made (λ k. form.Remainder x e k) ended_divisor)
    (made (λ _. assigned pointers x e) semicolon))))

-- behind `x = k`
unfoldable pub after_number : (List ℕ → Bool) → List ℕ → ℤ → Reading Lexeme Form
after_number pointers x k = on (is_mark sign.Star) (made (λ e. form.Product x k e) ended_value) (after_value pointers x (operand.Number k))

unfoldable pub computed : (List ℕ → Bool) → List ℕ → Reading Lexeme Form
computed pointers x = choose named (λ y. after_value pointers x (operand.Var y)) (number ⇒ λ k. after_number pointers x k)

unfoldable pub load : List ℕ → Reading Lexeme Form
load x = made (λ p. form.Load x p) ended_name

unfoldable pub get : List ℕ → Reading Lexeme Form
get x = made (λ w. form.Get x w) ended_name

unfoldable pub diff : List ℕ → Reading Lexeme Form
diff x = made (λ v. form.Diff x v.0 v.1) (a_name & λ _. the_mark sign.Comma ▷ ended_name)

unfoldable pub null : List ℕ → Reading Lexeme Form
null x = made (λ _. form.CopyPtr x None) semicolon

unfoldable pub address : List ℕ → Reading Lexeme Form
address x = made (λ a. form.Address x a) ended_name

-- behind `x =`
unfoldable pub right_side : (List ℕ → Bool) → List ℕ → Reading Lexeme Form
right_side pointers x = on (is_word key.Load) (load x)
    (on (is_word key.Get) (get x)
    (on (is_word key.Diff) (diff x)
    (on (is_word key.Call) (call (Some x))
    (on (is_word key.Null) (null x)
    (on (is_mark sign.And) (address x)
    (computed pointers x))))))

unfoldable pub assignment : (List ℕ → Bool) → Reading Lexeme Form
assignment pointers = a_name ⇒ λ x. the_mark sign.Assign ▷ right_side pointers x

-- ---- statements

unfoldable pub phrase : (List ℕ → Bool) → Reading Lexeme Form
phrase pointers = on (is_word key.Store) store
    (on (is_word key.Put) put
    (on (is_word key.Goto) goto
    (on (is_word key.If) branch
    (on (is_word key.Call) (call None)
    (on (is_word key.Return) return_rest
    (assignment pointers))))))

abbrev pub lined : ℕ × Form → Stmt
lined v = record { line = v.0; form = v.1 }

-- behind the line
unfoldable pub after_line : (List ℕ → Bool) → Reading Lexeme Form
after_line pointers = the_mark sign.Colon ▷ phrase pointers

unfoldable pub statement : (List ℕ → Bool) → Reading Lexeme Stmt
statement pointers = made lined (count & λ _. after_line pointers)
