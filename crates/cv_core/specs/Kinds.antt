-- The kinds that the statements of a body ask of what they name.
use Rattle.std.specs.Prelude.{ℕ, Bool, true, false, ◌&&◌, ◌||◌, ◌==◌, int_le, List, [], ◌∷◌, length, Option, Some, None, ℤ}
use Rattle.cv_core.specs.Chars.{greatest_char, least_char}
use Rattle.cv_core.specs.Meant.{built_in, built_in_answer, built_in_kinds, called, kinds_of, meant_in}
use Rattle.cv_core.specs.Names.{Name}
use Rattle.cv_core.specs.declared.program.Program.{Program}
use Rattle.cv_core.specs.declared.program.Proc.{Proc}
use Rattle.cv_core.specs.declared.program.Formal.{Formal}
use Rattle.cv_core.specs.declared.program.Form.{Form}
use Rattle.cv_core.specs.declared.program.Form.TheVariants as form
use Rattle.cv_core.specs.declared.program.Operand.{Operand}
use Rattle.cv_core.specs.declared.program.Operand.TheVariants as operand
use Rattle.cv_core.specs.declared.program.AnyOperand.{AnyOperand}
use Rattle.cv_core.specs.declared.program.AnyOperand.TheVariants as any
use Rattle.cv_core.specs.declared.program.Rel.{Rel}
use Rattle.cv_core.specs.declared.program.Rel.TheVariants as rel
use Rattle.cv_core.specs.declared.program.ResultKind.{ResultKind}
use Rattle.cv_core.specs.declared.program.ResultKind.TheVariants as gives
use Rattle.cv_core.specs.declared.program.VarKind.{VarKind}
use Rattle.cv_core.specs.declared.program.VarKind.TheVariants as kind
use Rattle.cv_core.specs.declared.names.BuiltIn.{BuiltIn}
use Rattle.cv_core.specs.declared.shape.names.Meant.{Meant}
use Rattle.cv_core.specs.declared.shape.names.Meant.TheVariants as meant

-- ---- what a name stands for

abbrev pub means_int : Option Meant → Bool
means_int (Some (meant.Variable kind.Int)) = true
means_int m = false

abbrev pub means_char : Option Meant → Bool
means_char (Some (meant.Variable kind.Char)) = true
means_char m = false

abbrev pub means_number : Option Meant → Bool
means_number (Some (meant.Variable kind.Int)) = true
means_number (Some (meant.Variable kind.Char)) = true
means_number m = false

abbrev pub means_ptr : Option Meant → Bool
means_ptr (Some (meant.Variable kind.Ptr)) = true
means_ptr m = false

abbrev pub means_pptr : Option Meant → Bool
means_pptr (Some (meant.Variable kind.Pptr)) = true
means_pptr m = false

abbrev pub means_iptr : Option Meant → Bool
means_iptr (Some (meant.Variable kind.Iptr)) = true
means_iptr m = false

-- a variable of any of the three pointer kinds
abbrev pub means_pointer : Option Meant → Bool
means_pointer (Some (meant.Variable kind.Ptr)) = true
means_pointer (Some (meant.Variable kind.Pptr)) = true
means_pointer (Some (meant.Variable kind.Iptr)) = true
means_pointer m = false

-- two pointer variables of one kind
abbrev pub same_pointers : Option Meant → Option Meant → Bool
same_pointers (Some (meant.Variable kind.Ptr)) q = means_ptr q
same_pointers (Some (meant.Variable kind.Pptr)) q = means_pptr q
same_pointers (Some (meant.Variable kind.Iptr)) q = means_iptr q
same_pointers p q = false

-- a pointer variable and an object to which its kind points
abbrev pub points_to : Option Meant → Option Meant → Bool
points_to (Some (meant.Variable kind.Ptr)) (Some meant.Buffer) = true
points_to (Some (meant.Variable kind.Pptr)) (Some meant.PointerCell) = true
points_to (Some (meant.Variable kind.Iptr)) (Some meant.IntCell) = true
points_to p a = false

-- a variable and a pointer to a cell that holds its kind
abbrev pub held_by : Option Meant → Option Meant → Bool
held_by x (Some (meant.Variable kind.Pptr)) = means_ptr x
held_by x (Some (meant.Variable kind.Iptr)) = means_number x
held_by x w = false

-- ---- operands

-- an int or char variable, or a number
abbrev pub is_number_operand : Program → Proc → Operand → Bool
is_number_operand P f (operand.Var x) = means_number (meant_in P f x)
is_number_operand P f (operand.Number z) = true

abbrev pub is_ptr_operand : Program → Proc → Operand → Bool
is_ptr_operand P f (operand.Var x) = means_ptr (meant_in P f x)
is_ptr_operand P f (operand.Number z) = false

-- a char variable, or a number that it can hold
abbrev pub is_char_operand : Program → Proc → Operand → Bool
is_char_operand P f (operand.Var x) = means_char (meant_in P f x)
is_char_operand P f (operand.Number z) = int_le (least_char P) z && int_le z (greatest_char P)

abbrev pub is_pptr_operand : Program → Proc → Operand → Bool
is_pptr_operand P f (operand.Var x) = means_pptr (meant_in P f x)
is_pptr_operand P f (operand.Number z) = false

abbrev pub is_iptr_operand : Program → Proc → Operand → Bool
is_iptr_operand P f (operand.Var x) = means_iptr (meant_in P f x)
is_iptr_operand P f (operand.Number z) = false

-- what a formal of a kind takes, and what a procedure that gives the kind may return; null is a pointer of each kind
abbrev pub takes : Program → Proc → VarKind → AnyOperand → Bool
takes P f kind.Int (any.Operand e) = is_number_operand P f e
takes P f kind.Char (any.Operand e) = is_char_operand P f e
takes P f kind.Ptr (any.Operand e) = is_ptr_operand P f e
takes P f kind.Pptr (any.Operand e) = is_pptr_operand P f e
takes P f kind.Iptr (any.Operand e) = is_iptr_operand P f e
takes P f kind.Int any.Null = false
takes P f kind.Char any.Null = false
takes P f k any.Null = true

-- ---- statements

abbrev pub is_equality : Rel → Bool
is_equality rel.Eq = true
is_equality rel.Ne = true
is_equality r = false

-- p = q, or p = null
abbrev pub copies : Program → Proc → Name → Option Name → Bool
copies P f p None = means_pointer (meant_in P f p)
copies P f p (Some q) = same_pointers (meant_in P f p) (meant_in P f q)

-- put w, e
abbrev pub puts : Program → Proc → Name → AnyOperand → Bool
puts P f w any.Null = means_pptr (meant_in P f w)
puts P f w (any.Operand (operand.Number z)) = means_iptr (meant_in P f w)
puts P f w (any.Operand (operand.Var x)) = held_by (meant_in P f x) (meant_in P f w)

-- two numbers in any relation; two `ptr`, or one and null, by == and != alone
abbrev pub compares : Program → Proc → Operand → Rel → AnyOperand → Bool
compares P f e r any.Null = is_ptr_operand P f e && is_equality r
compares P f e r (any.Operand g) =
    (is_number_operand P f e && is_number_operand P f g) || (is_ptr_operand P f e && is_ptr_operand P f g && is_equality r)

-- the destination of a call has the result's kind, or is int where the result is char
abbrev pub receives : Program → Proc → ResultKind → Option Name → Bool
receives P f k None = true
receives P f gives.Void (Some x) = false
receives P f gives.Int (Some x) = means_int (meant_in P f x)
receives P f gives.Char (Some x) = means_number (meant_in P f x)
receives P f gives.Ptr (Some x) = means_ptr (meant_in P f x)

-- an argument that has no formal: a variable, a number or null
abbrev pub is_argument : Program → Proc → AnyOperand → Bool
is_argument P f any.Null = true
is_argument P f (any.Operand (operand.Number z)) = true
is_argument P f (any.Operand (operand.Var x)) = means_number (meant_in P f x) || means_pointer (meant_in P f x)

-- each argument that has a formal is of its kind
abbrev pub takes_each : Program → Proc → List VarKind → List AnyOperand → Bool
takes_each P f ks [] = true
takes_each P f [] (a ∷ args) = is_argument P f a && takes_each P f [] args
takes_each P f (k ∷ ks) (a ∷ args) = takes P f k a && takes_each P f ks args

abbrev pub calls : Program → Proc → Option Name → List AnyOperand → Option BuiltIn → Option Proc → Bool
calls P f into args (Some b) h = receives P f (built_in_answer b) into && takes_each P f (built_in_kinds b) args
calls P f into args None (Some h) = receives P f h.answer into && takes_each P f (kinds_of h) args
calls P f into args None None = false

abbrev pub returns_kind : Program → Proc → ResultKind → Option AnyOperand → Bool
returns_kind P f gives.Void None = true
returns_kind P f gives.Int (Some e) = takes P f kind.Int e
returns_kind P f gives.Char (Some e) = takes P f kind.Char e
returns_kind P f gives.Ptr (Some e) = takes P f kind.Ptr e
returns_kind P f k e = false

-- what a statement of f names has the kinds that the statement asks for
abbrev pub has_kinds : Program → Proc → Form → Bool
has_kinds P f (form.Assign x e) = means_number (meant_in P f x) && is_number_operand P f e
has_kinds P f (form.Sum x e g) = means_number (meant_in P f x) && is_number_operand P f e && is_number_operand P f g
has_kinds P f (form.Minus x e g) = means_number (meant_in P f x) && is_number_operand P f e && is_number_operand P f g
has_kinds P f (form.Product x k e) = means_number (meant_in P f x) && is_number_operand P f e
has_kinds P f (form.Quotient x e k) = means_number (meant_in P f x) && is_number_operand P f e
has_kinds P f (form.Remainder x e k) = means_number (meant_in P f x) && is_number_operand P f e
has_kinds P f (form.CopyPtr p q) = copies P f p q
has_kinds P f (form.Address p a) = points_to (meant_in P f p) (meant_in P f a)
has_kinds P f (form.Shift p q e) = means_ptr (meant_in P f p) && means_ptr (meant_in P f q) && is_number_operand P f e
has_kinds P f (form.Load x p) = means_number (meant_in P f x) && means_ptr (meant_in P f p)
has_kinds P f (form.Store p e) = means_ptr (meant_in P f p) && is_number_operand P f e
has_kinds P f (form.Get x w) = held_by (meant_in P f x) (meant_in P f w)
has_kinds P f (form.Put w e) = puts P f w e
has_kinds P f (form.Diff x p q) = means_number (meant_in P f x) && means_ptr (meant_in P f p) && means_ptr (meant_in P f q)
has_kinds P f (form.Goto to) = true
has_kinds P f (form.If e r g to) = compares P f e r g
has_kinds P f (form.IfByte p equal to) = means_ptr (meant_in P f p)
has_kinds P f (form.Call into g args) = calls P f into args (built_in g) (called P g)
has_kinds P f (form.Return e) = returns_kind P f f.answer e

-- ---- the number of arguments

abbrev pub counts : List AnyOperand → Option BuiltIn → Option Proc → Bool
counts args (Some b) h = length args == length (built_in_kinds b)
counts args None (Some h) = length args == length h.formals
counts args None None = true

-- a call has an argument for each formal
abbrev pub has_count : Program → Form → Bool
has_count P (form.Call into g args) = counts args (built_in g) (called P g)
has_count P form = true
