-- The grammar of CoreC: which lines of tokens spell which tree. It knows no reader.
use Rattle.cv_core.specs.Names.{is_pointer_kind}
use Rattle.std.specs.Prelude.{◌≡◌, ℕ, ◌+◌, ◌<◌, ◌≤◌, ◌^◌, Bool, true, false, if◌then◌else◌, List, [], ◌∷◌, Some, None, ℤ, pos, neg_ℤ, ◌⊎◌}
use Rattle.std.specs.Str.{bytes_eq}
use Rattle.cv_core.specs.declared.program.GlobalDecl.{GlobalDecl}
use Rattle.cv_core.specs.declared.program.GlobalBody.{GlobalBody}
use Rattle.cv_core.specs.declared.program.GlobalBody.TheVariants as global
use Rattle.cv_core.specs.declared.program.Literal.{Literal}
use Rattle.cv_core.specs.declared.program.ResultKind.{ResultKind}
use Rattle.cv_core.specs.declared.program.ResultKind.TheVariants as answer
use Rattle.cv_core.specs.declared.program.VarKind.{VarKind}
use Rattle.cv_core.specs.declared.program.VarKind.TheVariants as kind
use Rattle.cv_core.specs.declared.program.Formal.{Formal}
use Rattle.cv_core.specs.declared.program.Local.{Local}
use Rattle.cv_core.specs.declared.program.LocalBody.{LocalBody}
use Rattle.cv_core.specs.declared.program.LocalBody.TheVariants as local
use Rattle.cv_core.specs.declared.program.Stmt.{Stmt}
use Rattle.cv_core.specs.declared.program.Form.{Form}
use Rattle.cv_core.specs.declared.program.Form.TheVariants as form
use Rattle.cv_core.specs.declared.program.Operand.{Operand}
use Rattle.cv_core.specs.declared.program.Operand.TheVariants as operand
use Rattle.cv_core.specs.declared.program.AnyOperand.{AnyOperand}
use Rattle.cv_core.specs.declared.program.AnyOperand.TheVariants as any
use Rattle.cv_core.specs.declared.program.Rel.{Rel}
use Rattle.cv_core.specs.declared.program.Rel.TheVariants as rel
use Rattle.cv_text.specs.declared.token.Key.{Key}
use Rattle.cv_text.specs.declared.token.Key.TheVariants as key
use Rattle.cv_text.specs.declared.token.Sign.{Sign}
use Rattle.cv_text.specs.declared.token.Sign.TheVariants as sign
use Rattle.cv_text.specs.Tokens.{name, word, digits, mark, Line, value_of}
use Rattle.cv_reading.specs.Phrase.{one, ◌⋅◌, Separated}

-- ---- single tokens

abbrev pub Name : List ℕ → Line → Type 0
Name x = one (name x)

abbrev pub Word : Key → Line → Type 0
Word k = one (word k)

abbrev pub Mark : Sign → Line → Type 0
Mark s = one (mark s)

-- digits, with or without leading zeros, whose value this is
abbrev pub Digits : ℕ → Line → Type 0
Digits n text = (ds : List ℕ) × (value_of ds ≡ n) × one (digits ds) text

-- digits of a value from low up to high
abbrev pub DigitsWithin : ℕ → ℕ → ℕ → Line → Type 0
DigitsWithin low high n text = (low ≤ n) × (n < high) × Digits n text

-- a number of a line, or of the statement to which a jump goes
abbrev pub Count : ℕ → Line → Type 0
Count = DigitsWithin 0 (2 ^ 31)

abbrev pub Size : ℕ → Line → Type 0
Size = DigitsWithin 1 (2 ^ 31)

abbrev pub Byte : ℕ → Line → Type 0
Byte = DigitsWithin 0 256

abbrev pub end : Line → Type 0
end = Mark sign.Semicolon

-- ---- numbers and operands

-- digits, or a minus and digits, within the range of an int
abbrev pub Plain : ℤ → Line → Type 0
Plain z text = (n : ℕ) × (z ≡ pos n) × DigitsWithin 0 (2 ^ 31) n text

abbrev pub Signed : ℤ → Line → Type 0
Signed z text = (n : ℕ) × (z ≡ neg_ℤ (pos n)) × (Mark sign.Minus ⋅ DigitsWithin 0 (2 ^ 31 + 1) n) text

abbrev pub Number : ℤ → Line → Type 0
Number z text = Plain z text ⊎ Signed z text

-- a number of at least 1
abbrev pub Divisor : ℤ → Line → Type 0
Divisor z text = (n : ℕ) × (z ≡ pos n) × DigitsWithin 1 (2 ^ 31) n text

abbrev pub Value : Operand → Line → Type 0
Value (operand.Var x) = Name x
Value (operand.Number z) = Number z

abbrev pub Any : AnyOperand → Line → Type 0
Any (any.Operand e) = Value e
Any any.Null = Word key.Null

abbrev pub Relation : Rel → Line → Type 0
Relation rel.Eq = Mark sign.Equal
Relation rel.Ne = Mark sign.NotEqual
Relation rel.Lt = Mark sign.Less
Relation rel.Le = Mark sign.AtMost
Relation rel.Gt = Mark sign.Greater
Relation rel.Ge = Mark sign.AtLeast

abbrev pub Equality : Bool → Line → Type 0
Equality true = Mark sign.Equal
Equality false = Mark sign.NotEqual

-- the single digit 0
abbrev pub Zero : Line → Type 0
Zero = one (digits (48 ∷ []))

-- ---- statements

abbrev pub Jump : ℕ → Line → Type 0
Jump to = Word key.Goto ⋅ Count to ⋅ end

abbrev pub CallPhrase : List ℕ → List AnyOperand → Line → Type 0
CallPhrase f args = Word key.Call ⋅ Name f ⋅ Mark sign.Open ⋅ Separated (Mark sign.Comma) Any args ⋅ Mark sign.Close ⋅ end

-- What the statement says, whatever is declared. Null is compared with a name alone, and only by == and !=.
abbrev pub Phrase : Form → Line → Type 0
Phrase (form.Assign x e) = Name x ⋅ Mark sign.Assign ⋅ Value e ⋅ end
Phrase (form.Sum x e f) = Name x ⋅ Mark sign.Assign ⋅ Value e ⋅ Mark sign.Plus ⋅ Value f ⋅ end
Phrase (form.Minus x e f) = Name x ⋅ Mark sign.Assign ⋅ Value e ⋅ Mark sign.Minus ⋅ Value f ⋅ end
Phrase (form.Product x k e) = Name x ⋅ Mark sign.Assign ⋅ Number k ⋅ Mark sign.Star ⋅ Value e ⋅ end
Phrase (form.Quotient x e k) = Name x ⋅ Mark sign.Assign ⋅ Value e ⋅ Mark sign.Slash ⋅ Divisor k ⋅ end
Phrase (form.Remainder x e k) = Name x ⋅ Mark sign.Assign ⋅ Value e ⋅ Mark sign.Percent ⋅ Divisor k ⋅ end
Phrase (form.CopyPtr p (Some q)) = Name p ⋅ Mark sign.Assign ⋅ Name q ⋅ end
Phrase (form.CopyPtr p None) = Name p ⋅ Mark sign.Assign ⋅ Word key.Null ⋅ end
Phrase (form.Address p a) = Name p ⋅ Mark sign.Assign ⋅ Mark sign.And ⋅ Name a ⋅ end
Phrase (form.Shift p q e) = Name p ⋅ Mark sign.Assign ⋅ Name q ⋅ Mark sign.Plus ⋅ Value e ⋅ end
Phrase (form.Load x p) = Name x ⋅ Mark sign.Assign ⋅ Word key.Load ⋅ Name p ⋅ end
Phrase (form.Store p e) = Word key.Store ⋅ Name p ⋅ Mark sign.Comma ⋅ Value e ⋅ end
Phrase (form.Get x w) = Name x ⋅ Mark sign.Assign ⋅ Word key.Get ⋅ Name w ⋅ end
Phrase (form.Put w e) = Word key.Put ⋅ Name w ⋅ Mark sign.Comma ⋅ Any e ⋅ end
Phrase (form.Diff x p q) = Name x ⋅ Mark sign.Assign ⋅ Word key.Diff ⋅ Name p ⋅ Mark sign.Comma ⋅ Name q ⋅ end
Phrase (form.Goto to) = Jump to
Phrase (form.If e r (any.Operand f) to) = Word key.If ⋅ Value e ⋅ Relation r ⋅ Value f ⋅ Jump to
Phrase (form.If (operand.Var p) rel.Eq any.Null to) = Word key.If ⋅ Name p ⋅ Mark sign.Equal ⋅ Word key.Null ⋅ Jump to
Phrase (form.If (operand.Var p) rel.Ne any.Null to) = Word key.If ⋅ Name p ⋅ Mark sign.NotEqual ⋅ Word key.Null ⋅ Jump to
Phrase (form.If e r any.Null to) = λ _. ⊥
Phrase (form.IfByte p equal to) = Word key.If ⋅ Word key.Load ⋅ Name p ⋅ Equality equal ⋅ Zero ⋅ Jump to
Phrase (form.Call None f args) = CallPhrase f args
Phrase (form.Call (Some x) f args) = Name x ⋅ Mark sign.Assign ⋅ CallPhrase f args
Phrase (form.Return None) = Word key.Return ⋅ end
Phrase (form.Return (Some e)) = Word key.Return ⋅ Any e ⋅ end

-- A phrase that fits two statements is the one of pointers exactly where the name on the left is a variable of a pointer kind.
-- Of several declarations of a name as a variable the first counts, and a name without one is an int.
abbrev pub is_pointer : List Formal → List ℕ → Bool
is_pointer [] x = false
is_pointer (v ∷ vs) x = if bytes_eq v.name x then is_pointer_kind v.kind else is_pointer vs x

abbrev pub AsDeclared : List Formal → Form → Type 0
AsDeclared vs (form.Assign x (operand.Var y)) = is_pointer vs x ≡ false
AsDeclared vs (form.Sum x (operand.Var y) e) = is_pointer vs x ≡ false
AsDeclared vs (form.CopyPtr p (Some q)) = is_pointer vs p ≡ true
AsDeclared vs (form.Shift p q e) = is_pointer vs p ≡ true
AsDeclared vs f = Unit {0}

-- a statement where these variables are declared
abbrev pub Statement : List Formal → Stmt → Line → Type 0
Statement vs s text = AsDeclared vs s.form × (Count s.line ⋅ Mark sign.Colon ⋅ Phrase s.form) text

-- ---- declarations

abbrev pub Kind : VarKind → Line → Type 0
Kind kind.Int = Word key.Int
Kind kind.Char = Word key.Char
Kind kind.Ptr = Word key.Ptr
Kind kind.Pptr = Word key.Pptr
Kind kind.Iptr = Word key.Iptr

abbrev pub LocalPhrase : List ℕ → LocalBody → Line → Type 0
LocalPhrase x (local.Var k) = Kind k ⋅ Name x ⋅ end
LocalPhrase x (local.Buffer n) = Word key.Buf ⋅ Name x ⋅ Size n ⋅ end
LocalPhrase x local.PointerCell = Word key.Pcell ⋅ Name x ⋅ end
LocalPhrase x local.IntCell = Word key.Icell ⋅ Name x ⋅ end

abbrev pub LocalText : Local → Line → Type 0
LocalText l = LocalPhrase l.name l.body

-- the variables among the locals
abbrev pub variables_of : List Local → List Formal
variables_of [] = []
variables_of (l ∷ ls) = elim l.body [ local.Var k ↦ record { kind = k; name = l.name } ∷ variables_of ls | _ ↦ variables_of ls ]

abbrev pub GlobalPhrase : List ℕ → GlobalBody → Line → Type 0
GlobalPhrase x (global.Buffer n) = Word key.Buf ⋅ Name x ⋅ Size n ⋅ end
GlobalPhrase x global.Pointer = Word key.Ptr ⋅ Name x ⋅ end
GlobalPhrase x global.Int = Word key.Int ⋅ Name x ⋅ end

abbrev pub GlobalText : GlobalDecl → Line → Type 0
GlobalText g = Word key.Global ⋅ GlobalPhrase g.name g.body

abbrev pub LiteralText : Literal → Line → Type 0
LiteralText l = Word key.Literal ⋅ Name l.name ⋅ Mark sign.OpenBrace ⋅ Separated (Mark sign.Comma) Byte l.bytes ⋅ Mark sign.CloseBrace ⋅ end

abbrev pub Answer : ResultKind → Line → Type 0
Answer answer.Void = Word key.Void
Answer answer.Int = Word key.Int
Answer answer.Char = Word key.Char
Answer answer.Ptr = Word key.Ptr

abbrev pub FormalText : Formal → Line → Type 0
FormalText f = Kind f.kind ⋅ Name f.name
