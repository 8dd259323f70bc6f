-- What a program's text alone asks of its tree: names, ranges of numbers, and lists that are not empty.
use Rattle.std.specs.Prelude.{ℕ, zero, suc, ◌<◌, ◌≤◌, ◌^◌, Bool, true, false, not, ◌&&◌, ◌||◌, IsTrue, nat_le, List, [], ◌∷◌, length, codes, Option, Some, None, ℤ, pos, negsuc, ◌≤ℤ◌}
use Rattle.std.specs.List.{list_all, list_any, All}
use Rattle.std.specs.Str.{bytes_eq}
use Rattle.cv_core.specs.declared.program.GlobalDecl.{GlobalDecl}
use Rattle.cv_core.specs.declared.program.GlobalBody.{GlobalBody}
use Rattle.cv_core.specs.declared.program.GlobalBody.TheVariants as global
use Rattle.cv_core.specs.declared.program.Literal.{Literal}
use Rattle.cv_core.specs.declared.program.Proc.{Proc}
use Rattle.cv_core.specs.declared.program.ProcBody.{ProcBody}
use Rattle.cv_core.specs.declared.program.Formal.{Formal}
use Rattle.cv_core.specs.declared.program.Local.{Local}
use Rattle.cv_core.specs.declared.program.LocalBody.{LocalBody}
use Rattle.cv_core.specs.declared.program.LocalBody.TheVariants as local
use Rattle.cv_core.specs.declared.program.Stmt.{Stmt}
use Rattle.cv_core.specs.declared.program.Form.{Form}
use Rattle.cv_core.specs.declared.program.Form.TheVariants as form
use Rattle.cv_core.specs.declared.program.Operand.{Operand}
use Rattle.cv_core.specs.declared.program.Operand.TheVariants as operand
use Rattle.cv_core.specs.declared.program.AnyOperand.{AnyOperand}
use Rattle.cv_core.specs.declared.program.AnyOperand.TheVariants as any
use Rattle.cv_core.specs.declared.program.Rel.{Rel}
use Rattle.cv_core.specs.declared.program.Rel.TheVariants as rel
use Rattle.cv_core.specs.declared.program.Contract.{Contract}
use Rattle.cv_core.specs.declared.program.Atom.{Atom}
use Rattle.cv_core.specs.declared.program.Atom.TheVariants as atom
use Rattle.cv_core.specs.declared.program.Item.{Item}
use Rattle.cv_core.specs.declared.program.Item.TheVariants as item
use Rattle.cv_core.specs.declared.program.LinPart.{LinPart}
use Rattle.cv_core.specs.declared.program.Term.{Term, Row_of-Term, end_of-Term, more_of-Term}
use Rattle.cv_core.specs.declared.program.Term.TheVariants as term
use Rattle.cv_core.specs.declared.program.PtrTerm.{PtrTerm, Row_of-PtrTerm, end_of-PtrTerm, more_of-PtrTerm}
use Rattle.cv_core.specs.declared.program.PtrTerm.TheVariants as pointer

pub record Tree : Type 0 where
  pub globals : List GlobalDecl
  pub literals : List Literal
  pub procs : List Proc

-- ---- names

abbrev pub is_letter : ℕ → Bool
is_letter c = (nat_le 65 c && nat_le c 90) || (nat_le 97 c && nat_le c 122) || bytes_eq (c ∷ []) (codes "_") || bytes_eq (c ∷ []) (codes "$")

abbrev pub is_digit : ℕ → Bool
is_digit c = nat_le 48 c && nat_le c 57

abbrev pub reserved : List (List ℕ)
reserved = codes "global" ∷ codes "buf" ∷ codes "ptr" ∷ codes "int" ∷ codes "literal" ∷ codes "proc" ∷ codes "void" ∷ codes "char"
    ∷ codes "extern" ∷ codes "pptr" ∷ codes "iptr" ∷ codes "pcell" ∷ codes "icell" ∷ codes "load" ∷ codes "store" ∷ codes "get"
    ∷ codes "put" ∷ codes "diff" ∷ codes "goto" ∷ codes "if" ∷ codes "call" ∷ codes "return" ∷ codes "null" ∷ codes "result" ∷ []

abbrev pub begins_name : List ℕ → Bool
begins_name [] = false
begins_name (c ∷ cs) = is_letter c && list_all (λ d. is_letter d || is_digit d) cs

abbrev pub is_name : List ℕ → Bool
is_name n = begins_name n && not (list_any (bytes_eq n) reserved)

abbrev pub IsName : List ℕ → Type 0
IsName n = IsTrue (is_name n)

abbrev pub IsMaybeName : Option (List ℕ) → Type 0
IsMaybeName None = Unit {0}
IsMaybeName (Some n) = IsName n

-- ---- numbers

abbrev pub IsSize : ℕ → Type 0
IsSize n = (1 ≤ n) × (n < 2 ^ 31)

-- digits that are at most the greatest int
abbrev pub IsDigits : ℕ → Type 0
IsDigits n = n < 2 ^ 31

abbrev pub IsInt : ℤ → Type 0
IsInt z = (negsuc 2147483647 ≤ℤ z) × (z ≤ℤ pos 2147483647)

abbrev pub AreBytes : List ℕ → Type 0
AreBytes bytes = All (λ b. b < 256) bytes

-- ---- statements

abbrev pub IsOperand : Operand → Type 0
IsOperand (operand.Var x) = IsName x
IsOperand (operand.Number z) = IsInt z

abbrev pub IsAnyOperand : AnyOperand → Type 0
IsAnyOperand (any.Operand e) = IsOperand e
IsAnyOperand any.Null = Unit {0}

abbrev pub IsMaybeOperand : Option AnyOperand → Type 0
IsMaybeOperand None = Unit {0}
IsMaybeOperand (Some e) = IsAnyOperand e

-- null is compared with a name alone, and only by == and !=
abbrev pub IsCompared : Operand → Rel → AnyOperand → Type 0
IsCompared e r (any.Operand f) = IsOperand e × IsOperand f
IsCompared (operand.Var x) rel.Eq any.Null = IsName x
IsCompared (operand.Var x) rel.Ne any.Null = IsName x
IsCompared e r any.Null = ⊥

abbrev pub IsForm : Form → Type 0
IsForm (form.Assign x e) = IsName x × IsOperand e
IsForm (form.Sum x e f) = IsName x × IsOperand e × IsOperand f
IsForm (form.Minus x e f) = IsName x × IsOperand e × IsOperand f
IsForm (form.Product x k e) = IsName x × IsOperand e × IsInt k
IsForm (form.Quotient x e k) = IsName x × IsOperand e × (pos 1 ≤ℤ k) × IsInt k
IsForm (form.Remainder x e k) = IsName x × IsOperand e × (pos 1 ≤ℤ k) × IsInt k
IsForm (form.CopyPtr p q) = IsName p × IsMaybeName q
IsForm (form.Address p a) = IsName p × IsName a
IsForm (form.Shift p q e) = IsName p × IsName q × IsOperand e
IsForm (form.Load x p) = IsName x × IsName p
IsForm (form.Store p e) = IsName p × IsOperand e
IsForm (form.Get x w) = IsName x × IsName w
IsForm (form.Put w e) = IsName w × IsAnyOperand e
IsForm (form.Diff x p q) = IsName x × IsName p × IsName q
IsForm (form.Goto to) = IsDigits to
IsForm (form.If e r f to) = IsCompared e r f × IsDigits to
IsForm (form.IfByte p equal to) = IsName p × IsDigits to
IsForm (form.Call into f args) = IsMaybeName into × IsName f × All IsAnyOperand args
IsForm (form.Return e) = IsMaybeOperand e

abbrev pub IsStmt : Stmt → Type 0
IsStmt s = IsDigits s.line × IsForm s.form

-- ---- contracts

abbrev mutual
  pub IsPointer : PtrTerm → Type 0
  IsPointer (pointer.Name x) = IsName x
  IsPointer (pointer.Star x) = IsName x
  IsPointer pointer.Answer = Unit {0}
  IsPointer (pointer.Pre' s held) = IsPointerHeld held

  pub IsPointerHeld : {n : _} → Row_of-PtrTerm n → Type 0
  IsPointerHeld end_of-PtrTerm = Unit {0}
  IsPointerHeld (more_of-PtrTerm t rest) = IsPointer t

abbrev mutual
  pub IsTerm : Term → Type 0
  IsTerm (term.Name x) = IsName x
  IsTerm (term.Star x) = IsName x
  IsTerm term.Answer = Unit {0}
  IsTerm (term.Pre' s held) = IsTermHeld held
  IsTerm (term.Alloc p) = IsPointer p
  IsTerm (term.Offset p) = IsPointer p
  IsTerm (term.Strlen p) = IsPointer p

  pub IsTermHeld : {n : _} → Row_of-Term n → Type 0
  IsTermHeld end_of-Term = Unit {0}
  IsTermHeld (more_of-Term t rest) = IsTerm t

-- digits, a term, or digits times a term
abbrev pub IsFactor : Option ℕ → Option Term → Type 0
IsFactor None None = ⊥
IsFactor None (Some t) = IsTerm t
IsFactor (Some k) None = IsDigits k
IsFactor (Some k) (Some t) = IsDigits k × IsTerm t

abbrev pub IsLin : List LinPart → Type 0
IsLin parts = (1 ≤ length parts) × All (λ p. IsFactor p.number p.term) parts

abbrev pub IsAtom : Atom → Type 0
IsAtom (atom.Null p equal) = IsPointer p
IsAtom (atom.Nullt p) = IsPointer p
IsAtom (atom.Clear p) = IsPointer p
IsAtom (atom.Fresh p) = IsPointer p
IsAtom (atom.Apart p q) = IsPointer p × IsPointer q
IsAtom (atom.SameBase p q) = IsPointer p × IsPointer q
IsAtom (atom.Compare left rel.Ne right) = ⊥
IsAtom (atom.Compare left r right) = IsLin left × IsLin right

abbrev pub IsItem : Item → Type 0
IsItem (item.Body p) = IsPointer p
IsItem (item.Star x) = IsName x
IsItem (item.Name x) = IsName x

abbrev pub IsAlternative : List Atom → Type 0
IsAlternative atoms = (1 ≤ length atoms) × All IsAtom atoms

pub record IsContract (c : Contract) : Type 0 where
  pub listed : All IsName c.listed
  pub needs : All IsAtom c.needs
  pub changes : All IsItem c.changes
  pub gives : All IsAlternative c.gives

-- ---- declarations

abbrev pub IsGlobalBody : GlobalBody → Type 0
IsGlobalBody (global.Buffer n) = IsSize n
IsGlobalBody global.Pointer = Unit {0}
IsGlobalBody global.Int = Unit {0}

abbrev pub IsLocalBody : LocalBody → Type 0
IsLocalBody (local.Buffer n) = IsSize n
IsLocalBody b = Unit {0}

abbrev pub IsLocal : Local → Type 0
IsLocal l = IsName l.name × IsLocalBody l.body

abbrev pub IsBody : Option ProcBody → Type 0
IsBody None = Unit {0}
IsBody (Some b) = All IsLocal b.locals × All IsStmt b.stmts

pub record IsProc (p : Proc) : Type 0 where
  pub line : IsDigits p.line
  pub name : IsName p.name
  pub formals : All (λ f. IsName f.name) p.formals
  pub contract : IsContract p.contract
  pub body : IsBody p.body

pub record IsWritten (t : Tree) : Type 0 where
  pub globals : All (λ g. IsName g.name × IsGlobalBody g.body) t.globals
  pub literals : All (λ l. IsName l.name × AreBytes l.bytes) t.literals
  pub procs : All IsProc t.procs
