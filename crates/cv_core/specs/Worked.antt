-- Small programs, and the first fault of each.
use Rattle.std.specs.Prelude.{ℕ, zero, suc, ◌≡◌, Bool, true, false, List, [], ◌∷◌, ◌++◌, map, codes, Option, Some, None, ℤ, pos, negsuc}
use Rattle.cv_core.specs.Limits.{first_limit}
use Rattle.cv_core.specs.Names.{Name}
use Rattle.cv_core.specs.Shape.{first_fault}
use Rattle.cv_core.specs.Terms.{pre_pointer, pre_term}
use Rattle.cv_core.specs.declared.faults.LimitName.{LimitName}
use Rattle.cv_core.specs.declared.faults.LimitName.TheVariants as limit
use Rattle.cv_core.specs.declared.faults.ShapeFault.{ShapeFault}
use Rattle.cv_core.specs.declared.faults.ShapeRule.{ShapeRule}
use Rattle.cv_core.specs.declared.faults.ShapeRule.TheVariants as rule
use Rattle.cv_core.specs.declared.program.Program.{Program}
use Rattle.cv_core.specs.declared.program.GlobalDecl.{GlobalDecl}
use Rattle.cv_core.specs.declared.program.GlobalBody.{GlobalBody}
use Rattle.cv_core.specs.declared.program.GlobalBody.TheVariants as global
use Rattle.cv_core.specs.declared.program.Literal.{Literal}
use Rattle.cv_core.specs.declared.program.Proc.{Proc}
use Rattle.cv_core.specs.declared.program.ProcBody.{ProcBody}
use Rattle.cv_core.specs.declared.program.Contract.{Contract}
use Rattle.cv_core.specs.declared.program.ResultKind.{ResultKind}
use Rattle.cv_core.specs.declared.program.ResultKind.TheVariants as gives
use Rattle.cv_core.specs.declared.program.Local.{Local}
use Rattle.cv_core.specs.declared.program.LocalBody.{LocalBody}
use Rattle.cv_core.specs.declared.program.LocalBody.TheVariants as local
use Rattle.cv_core.specs.declared.program.VarKind.{VarKind}
use Rattle.cv_core.specs.declared.program.VarKind.TheVariants as kind
use Rattle.cv_core.specs.declared.program.Stmt.{Stmt}
use Rattle.cv_core.specs.declared.program.Form.{Form}
use Rattle.cv_core.specs.declared.program.Form.TheVariants as form
use Rattle.cv_core.specs.declared.program.Operand.{Operand}
use Rattle.cv_core.specs.declared.program.Operand.TheVariants as operand
use Rattle.cv_core.specs.declared.program.AnyOperand.{AnyOperand}
use Rattle.cv_core.specs.declared.program.AnyOperand.TheVariants as any
use Rattle.cv_core.specs.declared.program.Formal.{Formal}
use Rattle.cv_core.specs.declared.program.Rel.{Rel}
use Rattle.cv_core.specs.declared.program.Rel.TheVariants as rel
use Rattle.cv_core.specs.declared.program.Atom.{Atom}
use Rattle.cv_core.specs.declared.program.Atom.TheVariants as atom
use Rattle.cv_core.specs.declared.program.Item.{Item}
use Rattle.cv_core.specs.declared.program.Item.TheVariants as item
use Rattle.cv_core.specs.declared.program.LinPart.{LinPart}
use Rattle.cv_core.specs.declared.program.Term.{Term}
use Rattle.cv_core.specs.declared.program.Term.TheVariants as term
use Rattle.cv_core.specs.declared.program.PtrTerm.{PtrTerm}
use Rattle.cv_core.specs.declared.program.PtrTerm.TheVariants as pointer

-- ---- shorthands

abbrev pub many : {X : Type 0} → ℕ → X → List X
many zero x = []
many (suc n) x = x ∷ many n x

abbrev pub var : Name → Operand
var x = operand.Var x

abbrev pub num : ℕ → Operand
num n = operand.Number (pos n)

abbrev pub arg : Name → AnyOperand
arg x = any.Operand (operand.Var x)

abbrev pub number : ℕ → AnyOperand
number n = any.Operand (operand.Number (pos n))

abbrev pub at : ℕ → Form → Stmt
at line form = record { line = line; form = form }

abbrev pub formal : VarKind → Name → Formal
formal k x = record { kind = k; name = x }

abbrev pub declared : Name → LocalBody → Local
declared x b = record { name = x; body = b }

abbrev pub variable : VarKind → Name → Local
variable k x = declared x (local.Var k)

abbrev pub uses_g : Contract
uses_g = record { listed = codes "g" ∷ []; needs = []; changes = []; gives = [] }

abbrev pub no_contract : Contract
no_contract = record { listed = []; needs = []; changes = []; gives = [] }

abbrev pub proc : ℕ → ResultKind → Name → List Formal → Contract → List Local → List Stmt → Proc
proc line answer name formals contract locals stmts =
    record { line = line; answer = answer; name = name; formals = formals; contract = contract; body = Some (record { locals = locals; stmts = stmts }) }

abbrev pub outside : ResultKind → Name → List Formal → Contract → Proc
outside answer name formals contract = record { line = 9; answer = answer; name = name; formals = formals; contract = contract; body = None }

abbrev pub return_zero : Form
return_zero = form.Return (Some (number 0))

-- the globals are a buffer g, a pointer h and an int n; the literal is $s
abbrev pub globals : List GlobalDecl
globals =
    record { name = codes "g"; body = global.Buffer 4 } ∷ record { name = codes "h"; body = global.Pointer }
    ∷ record { name = codes "n"; body = global.Int } ∷ []

abbrev pub literals : List Literal
literals = record { name = codes "$s"; bytes = 104 ∷ [] } ∷ []

abbrev pub program : List Proc → Program
program fs = record { globals = globals; literals = literals; procs = fs }

abbrev pub main_of : Contract → List Local → List Stmt → Proc
main_of c locals stmts = proc 4 gives.Int (codes "main") [] c locals stmts

-- int f(int a, char d, ptr q) uses g, char e(), void o() uses n
abbrev pub callees : List Proc
callees =
    proc 1 gives.Int (codes "f") (formal kind.Int (codes "a") ∷ formal kind.Char (codes "d") ∷ formal kind.Ptr (codes "q") ∷ []) uses_g [] (at 2 return_zero ∷ [])
    ∷ proc 3 gives.Char (codes "e") [] no_contract [] (at 3 (form.Return (Some (number 255))) ∷ [])
    ∷ proc 3 gives.Void (codes "o") [] (record { listed = codes "n" ∷ []; needs = []; changes = []; gives = [] }) [] (at 3 (form.Return None) ∷ [])
    ∷ []

abbrev pub locals : List Local
locals =
    declared (codes "b") (local.Buffer 4) ∷ declared (codes "c") local.PointerCell ∷ declared (codes "i") local.IntCell
    ∷ variable kind.Int (codes "x") ∷ variable kind.Char (codes "k") ∷ variable kind.Ptr (codes "p") ∷ variable kind.Pptr (codes "w")
    ∷ variable kind.Iptr (codes "v") ∷ []

-- ---- the number of the first rule that stands, 0 where none does

abbrev pub rule_number : ShapeRule → ℕ
rule_number rule.DoubleName = 1
rule_number rule.UnknownName = 2
rule_number rule.KindMismatch = 3
rule_number rule.ArgumentCount = 4
rule_number rule.JumpOutOfRange = 5
rule_number rule.NoReturn = 6
rule_number rule.UnlistedGlobal = 7
rule_number rule.MainForm = 8
rule_number rule.ExternForm = 9
rule_number rule.ContractForm = 10
rule_number rule.NoMain = 11

abbrev pub number_of : Option ShapeFault → ℕ
number_of None = 0
number_of (Some e) = rule_number e.rule

abbrev pub first_rule : Program → ℕ
first_rule P = number_of (first_fault P)

-- a statement in the body of main, before its return, on line 5
abbrev pub with_statement : Form → Program
with_statement form = program (callees ++ main_of uses_g locals (at 5 form ∷ at 6 return_zero ∷ []) ∷ [])

-- main with the contract, and with the formals of every kind
abbrev pub with_contract : Contract → Program
with_contract c =
    program (proc 1 gives.Ptr (codes "f") (formal kind.Int (codes "a") ∷ formal kind.Ptr (codes "p") ∷ formal kind.Pptr (codes "w") ∷ formal kind.Iptr (codes "v") ∷ []) c
    [] (at 2 (form.Return (Some any.Null)) ∷ [])
    ∷ main_of no_contract [] (at 6 return_zero ∷ []) ∷ [])

abbrev pub listing : List Name → List Atom → List Item → List (List Atom) → Contract
listing ns needs changes alternatives = record { listed = ns; needs = needs; changes = changes; gives = alternatives }

abbrev pub named : Name → PtrTerm
named x = pointer.Name x

abbrev pub plus : Term → LinPart
plus t = record { negative = false; number = None; term = Some t }

abbrev pub digits : ℕ → LinPart
digits n = record { negative = false; number = Some n; term = None }

abbrev pub times : ℕ → Term → LinPart
times k t = record { negative = false; number = Some k; term = Some t }

abbrev pub compared : LinPart → Rel → LinPart → Atom
compared l r k = atom.Compare (l ∷ []) r (k ∷ [])

-- int k(int n), 0 <= n <= A, -3 <= result <= B
abbrev pub extern_of : List Formal → ResultKind → ℕ → ℕ → Proc
extern_of formals answer a b =
    outside answer (codes "k") formals
    (record {
      listed = [];
      needs = compared (plus (term.Name (codes "a"))) rel.Ge (digits 1) ∷ compared (plus (term.Name (codes "a"))) rel.Le (digits a) ∷ [];
      changes = [];
      gives = (compared (plus term.Answer) rel.Ge (digits 1) ∷ compared (plus term.Answer) rel.Le (digits b) ∷ []) ∷ [];
    })

abbrev pub with_extern : Proc → Program
with_extern f = program (main_of no_contract [] (at 6 return_zero ∷ []) ∷ f ∷ [])

-- ---- programs at the limits

abbrev pub empty_proc : Proc
empty_proc = proc 1 gives.Int (codes "f") [] no_contract [] []

abbrev pub with_proc : Proc → Program
with_proc f = record { globals = []; literals = []; procs = empty_proc ∷ f ∷ [] }

abbrev pub null_atom : Atom
null_atom = atom.Nullt (named (codes "p"))

abbrev pub atom_of : ℕ → ℕ → Atom
atom_of a b = atom.Compare (many a (digits 1)) rel.Le (many b (digits 1))

-- ---- what is worked out

-- statements of main, and the first rule that stands there
pub record StatementsFail : Type 0 where
  pub fine : map (λ f. first_rule (with_statement f)) (
      form.Assign (codes "x") (var (codes "k")) ∷ form.Sum (codes "k") (num 1) (var (codes "x")) ∷ form.Minus (codes "x") (var (codes "x")) (num 1)
      ∷ form.Product (codes "x") (negsuc 0) (var (codes "x")) ∷ form.Quotient (codes "x") (num 9) (pos 2) ∷ form.Remainder (codes "k") (var (codes "k")) (pos 2)
      ∷ form.CopyPtr (codes "w") None ∷ form.CopyPtr (codes "v") (Some (codes "v")) ∷ form.Address (codes "p") (codes "b") ∷ form.Address (codes "p") (codes "$s")
      ∷ form.Address (codes "p") (codes "g") ∷ form.Address (codes "w") (codes "c") ∷ form.Address (codes "v") (codes "i")
      ∷ form.Shift (codes "p") (codes "p") (num 3) ∷ form.Load (codes "x") (codes "p") ∷ form.Store (codes "p") (var (codes "k")) ∷ form.Get (codes "k") (codes "v")
      ∷ form.Get (codes "p") (codes "w") ∷ form.Put (codes "w") any.Null ∷ form.Put (codes "v") (number 3) ∷ form.Put (codes "w") (arg (codes "p"))
      ∷ form.Diff (codes "x") (codes "p") (codes "p") ∷ form.Goto 1 ∷ form.If (var (codes "p")) rel.Ne any.Null 0 ∷ form.If (num 1) rel.Lt (arg (codes "k")) 1
      ∷ form.IfByte (codes "p") true 1 ∷ form.Call (Some (codes "x")) (codes "f") (number 1 ∷ number 255 ∷ any.Null ∷ [])
      ∷ form.Call (Some (codes "x")) (codes "e") [] ∷ form.Call (Some (codes "k")) (codes "e") [] ∷ form.Call (Some (codes "p")) (codes "malloc") (arg (codes "x") ∷ [])
      ∷ form.Call None (codes "getchar") [] ∷ form.Call (Some (codes "x")) (codes "putchar") (arg (codes "k") ∷ []) ∷ []) ≡ many 32 0
  pub unknown : map (λ f. first_rule (with_statement f)) (
      form.Assign (codes "z") (num 1) ∷ form.Sum (codes "x") (num 1) (var (codes "z")) ∷ form.CopyPtr (codes "p") (Some (codes "z")) ∷ form.Address (codes "p") (codes "z")
      ∷ form.Put (codes "v") (arg (codes "z")) ∷ form.IfByte (codes "z") true 9 ∷ form.Return (Some (arg (codes "z"))) ∷ form.Call None (codes "z") []
      ∷ form.Call (Some (codes "z")) (codes "f") [] ∷ form.Call None (codes "f") (number 1 ∷ number 1 ∷ any.Null ∷ arg (codes "z") ∷ []) ∷ []) ≡ many 10 2
  pub mismatched : map (λ f. first_rule (with_statement f)) (
      form.Assign (codes "p") (num 1) ∷ form.Assign (codes "n") (num 1) ∷ form.Sum (codes "x") (var (codes "p")) (num 1) ∷ form.CopyPtr (codes "p") (Some (codes "w"))
      ∷ form.CopyPtr (codes "x") None ∷ form.Address (codes "p") (codes "c") ∷ form.Address (codes "w") (codes "n") ∷ form.Address (codes "v") (codes "x")
      ∷ form.Shift (codes "w") (codes "w") (num 1) ∷ form.Load (codes "x") (codes "v") ∷ form.Store (codes "p") (var (codes "p")) ∷ form.Get (codes "p") (codes "v")
      ∷ form.Put (codes "v") any.Null ∷ form.Put (codes "w") (number 0) ∷ form.Diff (codes "x") (codes "p") (codes "w") ∷ form.If (var (codes "w")) rel.Eq any.Null 9
      ∷ form.If (var (codes "p")) rel.Lt (arg (codes "p")) 0 ∷ form.If (var (codes "p")) rel.Eq (number 0) 0 ∷ form.Return None ∷ form.Return (Some any.Null)
      ∷ form.Call (Some (codes "k")) (codes "f") (number 1 ∷ number 1 ∷ any.Null ∷ []) ∷ form.Call (Some (codes "x")) (codes "o") [] ∷ form.Call None (codes "f") (number 1 ∷ number 256 ∷ [])
      ∷ form.Call None (codes "f") (number 1 ∷ arg (codes "x") ∷ []) ∷ form.Call None (codes "malloc") (any.Null ∷ number 1 ∷ [])
      ∷ form.Call None (codes "f") (number 1 ∷ number 1 ∷ any.Null ∷ arg (codes "b") ∷ []) ∷ form.Call None (codes "getchar") (arg (codes "c") ∷ []) ∷ []) ≡ many 27 3
  pub counted : map (λ f. first_rule (with_statement f)) (
      form.Call None (codes "f") [] ∷ form.Call None (codes "f") (number 1 ∷ number 1 ∷ any.Null ∷ arg (codes "w") ∷ []) ∷ form.Call None (codes "malloc") []
      ∷ form.Call None (codes "getchar") (number 1 ∷ []) ∷ form.Call None (codes "o") (number 1 ∷ []) ∷ []) ≡ many 5 4
  pub jumps : map (λ f. first_rule (with_statement f)) (form.Goto 2 ∷ form.If (num 1) rel.Eq (number 1) 2 ∷ form.IfByte (codes "p") false 2 ∷ []) ≡ many 3 5
  pub listed : map (λ f. first_rule (with_statement f)) (form.Address (codes "w") (codes "h") ∷ form.Address (codes "v") (codes "n") ∷ form.Call None (codes "o") [] ∷ []) ≡ many 3 7
  pub calls_main : first_rule (with_statement (form.Call None (codes "main") [])) ≡ 8
  pub place : first_fault (with_statement (form.Goto 2)) ≡ Some (record { rule = rule.JumpOutOfRange; proc = 3; line = 5 })

-- contracts of f, and the first rule that stands there
pub record ContractsFail : Type 0 where
  pub fine : map (λ c. first_rule (with_contract c)) (
      listing (codes "g" ∷ codes "g" ∷ []) (atom.Clear (named (codes "g")) ∷ []) (item.Body (named (codes "g")) ∷ []) []
      ∷ listing (codes "h" ∷ codes "n" ∷ []) [] (item.Name (codes "h") ∷ item.Name (codes "n") ∷ item.Star (codes "w") ∷ item.Star (codes "v") ∷ []) ((atom.Fresh (named (codes "h")) ∷ []) ∷ [])
      ∷ listing [] [] (item.Body (pre_pointer (named (codes "p"))) ∷ []) ((atom.Fresh (pre_pointer (pointer.Star (codes "w"))) ∷ []) ∷ (atom.Fresh pointer.Answer ∷ []) ∷ [])
      ∷ listing [] (compared (times 65535 (term.Name (codes "a"))) rel.Le (plus (term.Star (codes "v"))) ∷ []) [] ((compared (plus (pre_term (term.Strlen (named (codes "p"))))) rel.Eq (plus (term.Alloc pointer.Answer)) ∷ []) ∷ [])
      ∷ []) ≡ many 4 0
  pub unknown : map (λ c. first_rule (with_contract c)) (
      listing (codes "$s" ∷ []) [] [] [] ∷ listing (codes "z" ∷ []) [] [] [] ∷ listing [] (atom.Nullt (named (codes "z")) ∷ []) [] [] ∷ listing [] [] (item.Name (codes "z") ∷ []) []
      ∷ listing [] [] [] ((atom.Apart pointer.Answer (pre_pointer (named (codes "z"))) ∷ []) ∷ []) ∷ listing [] (compared (digits 1) rel.Lt (plus (term.Strlen (named (codes "z")))) ∷ []) [] [] ∷ []) ≡ many 6 2
  pub listed : map (λ c. first_rule (with_contract c)) (
      listing [] (atom.Nullt (named (codes "g")) ∷ []) [] [] ∷ listing (codes "g" ∷ []) [] (item.Name (codes "n") ∷ []) [] ∷ listing (codes "a" ∷ []) [] [] ((atom.Fresh (named (codes "h")) ∷ []) ∷ []) ∷ []) ≡ many 3 7
  pub misformed : map (λ c. first_rule (with_contract c)) (
      listing (codes "a" ∷ []) [] [] [] ∷ listing [] (atom.Nullt (named (codes "a")) ∷ []) [] [] ∷ listing [] (atom.Nullt (pointer.Star (codes "v")) ∷ []) [] []
      ∷ listing [] (atom.Nullt pointer.Answer ∷ []) [] [] ∷ listing [] (atom.Nullt (pre_pointer (named (codes "p"))) ∷ []) [] [] ∷ listing [] (atom.Fresh (pointer.Star (codes "w")) ∷ []) [] []
      ∷ listing [] [] (item.Body pointer.Answer ∷ []) [] ∷ listing [] [] (item.Name (codes "a") ∷ []) [] ∷ listing [] [] (item.Star (codes "p") ∷ []) []
      ∷ listing (codes "g" ∷ []) [] (item.Name (codes "g") ∷ []) [] ∷ listing [] [] [] ((atom.Fresh (named (codes "p")) ∷ []) ∷ [])
      ∷ listing [] [] [] ((atom.Fresh (pre_pointer (named (codes "p"))) ∷ []) ∷ []) ∷ listing [] [] [] ((atom.Nullt (pre_pointer (pre_pointer (named (codes "p")))) ∷ []) ∷ [])
      ∷ listing [] [] [] ((atom.Nullt (pre_pointer pointer.Answer) ∷ []) ∷ []) ∷ listing [] [] [] ((atom.Fresh pointer.Answer ∷ atom.Fresh (pointer.Star (codes "w")) ∷ []) ∷ [])
      ∷ listing [] [] [] ((compared (plus term.Answer) rel.Eq (digits 1) ∷ []) ∷ []) ∷ listing [] (compared (times 65536 (term.Name (codes "a"))) rel.Le (digits 1) ∷ []) [] []
      ∷ listing [] (compared (plus (term.Name (codes "p"))) rel.Le (digits 1) ∷ []) [] [] ∷ listing [] [] [] ((compared (plus (pre_term (term.Alloc (pre_pointer (named (codes "p")))))) rel.Eq (digits 1) ∷ []) ∷ []) ∷ []) ≡ many 19 10
  pub place : first_fault (with_contract (listing (codes "a" ∷ []) [] [] [])) ≡ Some (record { rule = rule.ContractForm; proc = 0; line = 1 })

-- declarations and headings, and the first fault
pub record HeadingsFail : Type 0 where
  pub global_twice : first_fault (record { globals = globals ++ globals; literals = []; procs = [] }) ≡ Some (record { rule = rule.DoubleName; proc = 4294967295; line = 1 })
  pub literal_twice : map first_rule (
      record { globals = []; literals = literals ++ literals; procs = [] }
      ∷ record { globals = globals; literals = record { name = codes "n"; bytes = [] } ∷ []; procs = [] } ∷ []) ≡ many 2 1
  pub proc_twice : first_fault (program (main_of no_contract [] (at 5 return_zero ∷ []) ∷ proc 7 gives.Int (codes "main") [] no_contract [] (at 8 return_zero ∷ []) ∷ []))
      ≡ Some (record { rule = rule.DoubleName; proc = 1; line = 7 })
  pub built_in_twice : first_rule (program (proc 7 gives.Int (codes "getchar") [] no_contract [] (at 8 return_zero ∷ []) ∷ [])) ≡ 1
  pub formal_twice : map (λ fs. first_rule (program (proc 7 gives.Int (codes "f") fs no_contract [] (at 8 return_zero ∷ []) ∷ []))) (
      (formal kind.Int (codes "a") ∷ formal kind.Ptr (codes "a") ∷ []) ∷ (formal kind.Int (codes "$s") ∷ []) ∷ (formal kind.Int (codes "g") ∷ []) ∷ []) ≡ many 3 1
  pub local_twice : map (λ ls. first_rule (program (proc 7 gives.Int (codes "f") (formal kind.Int (codes "a") ∷ []) no_contract ls (at 8 return_zero ∷ []) ∷ []))) (
      (variable kind.Int (codes "b") ∷ declared (codes "b") (local.Buffer 1) ∷ []) ∷ (variable kind.Int (codes "a") ∷ []) ∷ (declared (codes "h") local.IntCell ∷ []) ∷ []) ≡ many 3 1
  pub proc_and_global : first_rule (program (proc 7 gives.Int (codes "g") [] no_contract [] (at 8 return_zero ∷ []) ∷ main_of no_contract [] (at 6 return_zero ∷ []) ∷ [])) ≡ 0
  pub no_return : map (λ ss. first_fault (program (main_of no_contract locals ss ∷ []))) (
      [] ∷ (at 5 (form.Assign (codes "x") (num 1)) ∷ []) ∷ (at 5 return_zero ∷ at 6 (form.If (num 1) rel.Eq (number 1) 0) ∷ []) ∷ (at 5 (form.Goto 0) ∷ []) ∷ [])
      ≡ Some (record { rule = rule.NoReturn; proc = 0; line = 4 }) ∷ Some (record { rule = rule.NoReturn; proc = 0; line = 5 }) ∷ Some (record { rule = rule.NoReturn; proc = 0; line = 6 }) ∷ None ∷ []
  pub main : map (λ f. first_rule (program (f ∷ []))) (
      outside gives.Int (codes "main") [] no_contract ∷ proc 1 gives.Void (codes "main") [] no_contract [] (at 2 (form.Return None) ∷ [])
      ∷ proc 1 gives.Int (codes "main") (formal kind.Char (codes "a") ∷ []) no_contract [] (at 2 return_zero ∷ [])
      ∷ proc 1 gives.Int (codes "main") (formal kind.Int (codes "a") ∷ formal kind.Ptr (codes "b") ∷ []) no_contract [] (at 2 return_zero ∷ []) ∷ []) ≡ 8 ∷ 8 ∷ 8 ∷ 0 ∷ []
  pub externs : map (λ f. first_rule (with_extern f)) (
      extern_of (formal kind.Int (codes "a") ∷ []) gives.Int 1 1 ∷ extern_of (formal kind.Int (codes "a") ∷ []) gives.Int 0 9 ∷ extern_of (formal kind.Int (codes "a") ∷ []) gives.Int 9 0
      ∷ extern_of (formal kind.Char (codes "a") ∷ []) gives.Int 9 9 ∷ extern_of [] gives.Int 9 9 ∷ extern_of (formal kind.Int (codes "a") ∷ []) gives.Char 9 9
      ∷ extern_of (formal kind.Int (codes "b") ∷ []) gives.Int 9 9 ∷ outside gives.Int (codes "k") (formal kind.Int (codes "a") ∷ []) no_contract ∷ []) ≡ 0 ∷ many 7 9
  pub no_main : first_fault (program []) ≡ Some (record { rule = rule.NoMain; proc = 4294967295; line = 1 })

-- of two faults the one at the earlier place, or of the earlier rule
pub record OrderOfFaults : Type 0 where
  pub heading_then_contract : first_rule (program (proc 7 gives.Int (codes "f") [] (listing (codes "z" ∷ []) [] [] []) [] [] ∷ [])) ≡ 6
  pub contract_then_locals : first_rule (program (proc 7 gives.Int (codes "f") [] (listing (codes "z" ∷ []) [] [] []) (variable kind.Int (codes "g") ∷ []) (at 8 return_zero ∷ []) ∷ [])) ≡ 2
  pub locals_then_statements : first_rule (program (proc 7 gives.Int (codes "f") [] no_contract (variable kind.Int (codes "g") ∷ []) (at 8 (form.Goto 9) ∷ []) ∷ [])) ≡ 1
  pub kind_then_count : first_rule (with_statement (form.Call None (codes "f") (any.Null ∷ []))) ≡ 3
  pub jump_then_end : first_fault (program (main_of no_contract [] (at 5 (form.If (num 1) rel.Eq (number 1) 7) ∷ []) ∷ [])) ≡ Some (record { rule = rule.JumpOutOfRange; proc = 0; line = 5 })
  pub statements_in_order : first_fault (program (main_of no_contract locals (at 5 (form.Goto 9) ∷ at 4 (form.Assign (codes "z") (num 1)) ∷ []) ∷ [])) ≡ Some (record { rule = rule.JumpOutOfRange; proc = 0; line = 5 })
  pub procedures_in_order : first_rule (program (proc 7 gives.Int (codes "f") [] no_contract [] (at 8 (form.Goto 9) ∷ []) ∷ proc 9 gives.Int (codes "f") [] no_contract [] [] ∷ [])) ≡ 5
  pub globals_first : first_rule (record { globals = globals ++ globals; literals = []; procs = proc 7 gives.Int (codes "f") [] no_contract [] [] ∷ [] }) ≡ 1
  pub unlisted_then_form : first_rule (with_contract (listing (codes "a" ∷ []) (atom.Nullt (named (codes "g")) ∷ []) [] [])) ≡ 7
  pub extern_then_contract : first_rule (with_extern (outside gives.Int (codes "k") [] (listing (codes "z" ∷ []) [] [] []))) ≡ 9

-- counts at each limit and one past it
pub record LimitsPass : Type 0 where
  pub procedures : map (λ n. first_limit (record { globals = []; literals = []; procs = many n empty_proc })) (256 ∷ 257 ∷ []) ≡ None ∷ Some limit.Procedures ∷ []
  pub globals_count : map (λ n. first_limit (record { globals = many n (record { name = codes "g"; body = global.Int }); literals = []; procs = [] })) (256 ∷ 257 ∷ []) ≡ None ∷ Some limit.Globals ∷ []
  pub literals_count : map (λ n. first_limit (record { globals = []; literals = many n (record { name = codes "s"; bytes = [] }); procs = [] })) (1024 ∷ 1025 ∷ []) ≡ None ∷ Some limit.Literals ∷ []
  pub literal : map (λ n. first_limit (record { globals = []; literals = record { name = codes "s"; bytes = many n 0 } ∷ []; procs = [] })) (4096 ∷ 4097 ∷ []) ≡ None ∷ Some limit.Literal ∷ []
  pub formals : map (λ n. first_limit (with_proc (proc 1 gives.Int (codes "f") (many n (formal kind.Int (codes "a"))) no_contract [] []))) (8 ∷ 9 ∷ []) ≡ None ∷ Some limit.Formals ∷ []
  pub locals_count : map (λ n. first_limit (with_proc (proc 1 gives.Int (codes "f") (formal kind.Int (codes "a") ∷ []) no_contract (many n (variable kind.Int (codes "b"))) []))) (199 ∷ 200 ∷ []) ≡ None ∷ Some limit.Locals ∷ []
  pub statements : map (λ n. first_limit (with_proc (proc 1 gives.Int (codes "f") [] no_contract [] (many n (at 1 return_zero))))) (1000 ∷ 1001 ∷ []) ≡ None ∷ Some limit.Statements ∷ []
  pub atoms : map (λ n. first_limit (with_proc (proc 1 gives.Int (codes "f") [] (listing [] (many n null_atom) [] ((many n null_atom) ∷ [])) [] []))) (16 ∷ 17 ∷ []) ≡ None ∷ Some limit.Atoms ∷ []
  pub parts : map (λ n. first_limit (with_proc (proc 1 gives.Int (codes "f") [] (listing [] [] [] ((atom_of 6 n ∷ []) ∷ [])) [] []))) (6 ∷ 7 ∷ []) ≡ None ∷ Some limit.Parts ∷ []
  pub alternatives : map (λ n. first_limit (with_proc (proc 1 gives.Int (codes "f") [] (listing [] [] [] (many n (null_atom ∷ []))) [] []))) (8 ∷ 9 ∷ []) ≡ None ∷ Some limit.Alternatives ∷ []
  pub table_order : first_limit (record { globals = many 257 (record { name = codes "g"; body = global.Int }); literals = []; procs = many 2 (proc 1 gives.Int (codes "f") (many 9 (formal kind.Int (codes "a"))) no_contract [] []) }) ≡ Some limit.Globals
