-- Small programs, and how their runs end.
use Rattle.std.specs.Prelude.{ℕ, ◌≡◌, Bool, true, false, List, [], ◌∷◌, codes, Option, Some, None, ℤ, pos, negsuc}
use Rattle.cv_core.specs.Names.{Name}
use Rattle.cv_core.specs.Terms.{pre_pointer, pre_term}
use Rattle.cv_core.specs.declared.faults.ErrKind.TheVariants as err
use Rattle.cv_core.specs.declared.program.Program.{Program}
use Rattle.cv_core.specs.declared.program.GlobalDecl.{GlobalDecl}
use Rattle.cv_core.specs.declared.program.GlobalBody.TheVariants as global
use Rattle.cv_core.specs.declared.program.Literal.{Literal}
use Rattle.cv_core.specs.declared.program.Proc.{Proc}
use Rattle.cv_core.specs.declared.program.Contract.{Contract}
use Rattle.cv_core.specs.declared.program.ResultKind.{ResultKind}
use Rattle.cv_core.specs.declared.program.ResultKind.TheVariants as answer
use Rattle.cv_core.specs.declared.program.Local.{Local}
use Rattle.cv_core.specs.declared.program.LocalBody.TheVariants as local
use Rattle.cv_core.specs.declared.program.VarKind.TheVariants as kind
use Rattle.cv_core.specs.declared.program.VarKind.{VarKind}
use Rattle.cv_core.specs.declared.program.Stmt.{Stmt}
use Rattle.cv_core.specs.declared.program.Form.{Form}
use Rattle.cv_core.specs.declared.program.Form.TheVariants as form
use Rattle.cv_core.specs.declared.program.Operand.{Operand}
use Rattle.cv_core.specs.declared.program.Operand.TheVariants as operand
use Rattle.cv_core.specs.declared.program.AnyOperand.{AnyOperand}
use Rattle.cv_core.specs.declared.program.AnyOperand.TheVariants as any
use Rattle.cv_core.specs.declared.program.Formal.{Formal}
use Rattle.cv_core.specs.declared.program.Rel.{Rel}
use Rattle.cv_core.specs.declared.program.Rel.TheVariants as rel
use Rattle.cv_core.specs.declared.program.Atom.{Atom}
use Rattle.cv_core.specs.declared.program.Atom.TheVariants as atom
use Rattle.cv_core.specs.declared.program.Item.{Item}
use Rattle.cv_core.specs.declared.program.Item.TheVariants as item
use Rattle.cv_core.specs.declared.program.LinPart.{LinPart}
use Rattle.cv_core.specs.declared.program.Term.{Term}
use Rattle.cv_core.specs.declared.program.Term.TheVariants as term
use Rattle.cv_core.specs.declared.program.PtrTerm.{PtrTerm}
use Rattle.cv_core.specs.declared.program.PtrTerm.TheVariants as pointer
use Rattle.cv_meaning.specs.declared.memory.Object.{Object}
use Rattle.cv_meaning.specs.declared.memory.Body.TheVariants.{Buffer, Cell}
use Rattle.cv_meaning.specs.declared.memory.Ptr.TheVariants.{Null, Wild, At}
use Rattle.cv_meaning.specs.declared.memory.World.{World}
use Rattle.cv_meaning.specs.declared.memory.Value.TheVariants as value
use Rattle.cv_meaning.specs.Clean.{Clean}
use Rattle.cv_meaning.specs.Run.{End, Stopped, Error, Returned, run_main}

-- ---- shorthands

-- a number that a run returned
abbrev pub number_of : End → Option ℤ
number_of (Returned (Some (value.Int z)) m left w out) = Some z
number_of e = None

abbrev pub output_of : End → List ℕ
output_of (Stopped out) = out
output_of (Error k q l out) = out
output_of (Returned v m left w out) = out

abbrev pub world : List ℕ → List ℤ → List Bool → List ℤ → World
world input fresh allocations answers = record { input = input; fresh = fresh; allocations = allocations; answers = answers }

abbrev pub quiet : World
quiet = world [] [] [] []

abbrev pub at : ℕ → Form → Stmt
at line form = record { line = line; form = form }

abbrev pub var : Name → AnyOperand
var x = any.Operand (operand.Var x)

abbrev pub num : ℤ → AnyOperand
num z = any.Operand (operand.Number z)

abbrev pub returns_number : ℤ → Form
returns_number z = form.Return (Some (num z))

abbrev pub buf : Name → ℕ → Local
buf x n = record { name = x; body = local.Buffer n }

abbrev pub ptr : Name → Local
ptr x = record { name = x; body = local.Var kind.Ptr }

abbrev pub int : Name → Local
int x = record { name = x; body = local.Var kind.Int }

abbrev pub char : Name → Local
char x = record { name = x; body = local.Var kind.Char }

abbrev pub formal : VarKind → Name → Formal
formal k x = record { kind = k; name = x }

abbrev pub plus : Term → LinPart
plus t = record { negative = false; number = None; term = Some t }

abbrev pub digits : ℕ → LinPart
digits n = record { negative = false; number = Some n; term = None }

abbrev pub minus_digits : ℕ → LinPart
minus_digits n = record { negative = true; number = Some n; term = None }

abbrev pub compared : Term → Rel → List LinPart → Atom
compared t r parts = atom.Compare (plus t ∷ []) r parts

abbrev pub no_contract : Contract
no_contract = record { listed = []; needs = []; changes = []; gives = [] }

abbrev pub with_contract : List Atom → List Atom → Contract
with_contract needs gives = record { listed = []; needs = needs; changes = []; gives = gives ∷ [] }

abbrev pub proc : ℕ → ResultKind → Name → List Formal → Contract → List Local → List Stmt → Proc
proc line answer name formals contract locals stmts =
    record { line = line; answer = answer; name = name; formals = formals; contract = contract; body = Some (record { locals = locals; stmts = stmts }) }

abbrev pub program : List Proc → Program
program procs = record { globals = []; literals = []; procs = procs }

abbrev pub main_of : List Local → List Stmt → Program
main_of locals stmts = program (proc 1 answer.Int (codes "main") [] no_contract locals stmts ∷ [])

abbrev pub b : Name
b = codes "b"

abbrev pub c : Name
c = codes "c"

abbrev pub n : Name
n = codes "n"

abbrev pub p : Name
p = codes "p"

abbrev pub x : Name
x = codes "x"

-- ---- the programs

-- p = &b; p = p + z; store p, 0; return 0, over a buffer of 4 bytes
abbrev pub stores_at : ℤ → Program
stores_at z = main_of (buf b 4 ∷ ptr p ∷ [])
    (at 2 (form.Address p b) ∷ at 3 (form.Shift p p (operand.Number z)) ∷ at 4 (form.Store p (operand.Number (pos 0))) ∷ at 5 (returns_number (pos 0)) ∷ [])

-- b[0] = 0; b[1] = 'x'; c = b[1]; return c
abbrev pub reads_behind : Program
reads_behind = main_of (buf b 4 ∷ char c ∷ ptr p ∷ [])
    (at 4 (form.Address p b) ∷ at 4 (form.Store p (operand.Number (pos 0)))
    ∷ at 5 (form.Shift p p (operand.Number (pos 1))) ∷ at 5 (form.Store p (operand.Number (pos 120)))
    ∷ at 6 (form.Load c p) ∷ at 7 (form.Return (Some (var c))) ∷ [])

-- a procedure that returns its local buffer
abbrev pub returns_local : Program
returns_local = program
    (proc 1 answer.Ptr (codes "bad") [] no_contract (buf b 4 ∷ ptr p ∷ []) (at 3 (form.Address p b) ∷ at 3 (form.Return (Some (var p))) ∷ [])
    ∷ proc 5 answer.Int (codes "main") [] no_contract [] (at 6 (form.Call None (codes "bad") []) ∷ at 7 (returns_number (pos 0)) ∷ []) ∷ [])

-- main(n) with 0 <= n <= 9 returns n + step, and ensures n + 1
abbrev pub adds : ℤ → Program
adds step = program (proc 1 answer.Int (codes "main") (formal kind.Int n ∷ [])
    (with_contract (compared (term.Name n) rel.Ge (digits 0 ∷ []) ∷ compared (term.Name n) rel.Le (digits 9 ∷ []) ∷ [])
    (compared term.Answer rel.Eq (plus (pre_term (term.Name n)) ∷ digits 1 ∷ []) ∷ []))
    [] (at 3 (form.Sum n (operand.Var n) (operand.Number step)) ∷ at 4 (form.Return (Some (var n))) ∷ []) ∷ [])

-- down(n) counts n down to 0 by calls of itself; main calls down(5)
abbrev pub counts_down : Program
counts_down = program
    (proc 1 answer.Int (codes "down") (formal kind.Int n ∷ [])
    (with_contract (compared (term.Name n) rel.Ge (digits 0 ∷ []) ∷ []) (compared term.Answer rel.Eq (digits 0 ∷ []) ∷ [])) []
    (at 2 (form.If (operand.Var n) rel.Eq (num (pos 0)) 4) ∷ at 3 (form.Minus n (operand.Var n) (operand.Number (pos 1)))
    ∷ at 4 (form.Call (Some n) (codes "down") (var n ∷ [])) ∷ at 5 (form.Return (Some (var n))) ∷ at 6 (returns_number (pos 0)) ∷ [])
    ∷ proc 7 answer.Int (codes "main") [] no_contract (int x ∷ [])
    (at 8 (form.Call (Some x) (codes "down") (num (pos 5) ∷ [])) ∷ at 9 (form.Return (Some (var x))) ∷ []) ∷ [])

-- main calls a procedure that calls itself for ever
abbrev pub calls_on : Program
calls_on = program
    (proc 1 answer.Void (codes "on") [] no_contract [] (at 2 (form.Call None (codes "on") []) ∷ at 3 (form.Return None) ∷ [])
    ∷ proc 4 answer.Int (codes "main") [] no_contract [] (at 5 (form.Call None (codes "on") []) ∷ at 6 (returns_number (pos 0)) ∷ []) ∷ [])

-- p = &l; store p, 0 at the literal "hi"
abbrev pub stores_literal : Program
stores_literal = record {
  globals = [];
  literals = record { name = codes "$s1"; bytes = codes "hi" } ∷ [];
  procs = proc 1 answer.Int (codes "main") [] no_contract (ptr p ∷ [])
      (at 2 (form.Address p (codes "$s1")) ∷ at 3 (form.Store p (operand.Number (pos 0))) ∷ at 4 (returns_number (pos 0)) ∷ []) ∷ [];
}

abbrev pub hi : Object
hi = record { site = 1; live = true; body = Buffer (104 ∷ 105 ∷ 0 ∷ []) }

-- p = &g; store p, 0 at a global buffer that main uses, and modifies where said
abbrev pub stores_global : List Item → Program
stores_global changes = record {
  globals = record { name = codes "g"; body = global.Buffer 2 } ∷ [];
  literals = [];
  procs = proc 1 answer.Int (codes "main") [] (record { listed = codes "g" ∷ []; needs = []; changes = changes; gives = [] }) (ptr p ∷ [])
      (at 2 (form.Address p (codes "g")) ∷ at 3 (form.Store p (operand.Number (pos 0))) ∷ at 4 (returns_number (pos 7)) ∷ []) ∷ [];
}

abbrev pub two_bytes : Object
two_bytes = record { site = 1; live = true; body = Buffer (1 ∷ 2 ∷ []) }

-- f(d) stores at d, and modifies nothing
abbrev pub stores_unasked : Program
stores_unasked = program
    (proc 1 answer.Void (codes "f") (formal kind.Ptr (codes "d") ∷ [])
    (record { listed = []; changes = []; gives = []; needs = compared (term.Alloc (pointer.Name (codes "d"))) rel.Ge (digits 1 ∷ []) ∷ [] }) []
    (at 3 (form.Store (codes "d") (operand.Number (pos 0))) ∷ at 4 (form.Return None) ∷ [])
    ∷ proc 5 answer.Int (codes "main") [] no_contract (buf b 2 ∷ ptr p ∷ [])
    (at 6 (form.Address p b) ∷ at 7 (form.Call None (codes "f") (var p ∷ [])) ∷ at 8 (returns_number (pos 0)) ∷ []) ∷ [])

-- p = null; x = load p
abbrev pub loads_null : Program
loads_null = main_of (ptr p ∷ int x ∷ []) (at 2 (form.CopyPtr p None) ∷ at 3 (form.Load x p) ∷ at 4 (returns_number (pos 0)) ∷ [])

-- if p == null, p being wild: 2 where it is, else 1
abbrev pub compares_wild : Program
compares_wild = main_of (ptr p ∷ [])
    (at 3 (form.If (operand.Var p) rel.Eq any.Null 2) ∷ at 4 (returns_number (pos 1)) ∷ at 5 (returns_number (pos 2)) ∷ [])

-- p = malloc(4); store p, 0
abbrev pub allocates : Program
allocates = main_of (ptr p ∷ [])
    (at 3 (form.Call (Some p) (codes "malloc") (num (pos 4) ∷ [])) ∷ at 4 (form.Store p (operand.Number (pos 0))) ∷ at 5 (returns_number (pos 0)) ∷ [])

-- x = getchar(); x = putchar(x), twice
abbrev pub echoes : Program
echoes = main_of (int x ∷ [])
    (at 3 (form.Call (Some x) (codes "getchar") []) ∷ at 4 (form.Call (Some x) (codes "putchar") (var x ∷ []))
    ∷ at 5 (form.Call (Some x) (codes "getchar") []) ∷ at 6 (form.Call None (codes "putchar") (var x ∷ [])) ∷ at 7 (form.Return (Some (var x))) ∷ [])

-- an extern procedure ask(n), 0 <= n <= 1, with the answers -3..3
abbrev pub asks : Program
asks = program
    (proc 1 answer.Int (codes "main") [] no_contract (int x ∷ [])
    (at 3 (form.Call (Some x) (codes "ask") (num (pos 1) ∷ [])) ∷ at 5 (form.Return (Some (var x))) ∷ [])
    ∷ record {
      line = 6;
      answer = answer.Int;
      name = codes "ask";
      formals = formal kind.Int n ∷ [];
      body = None;
      contract = with_contract (compared (term.Name n) rel.Ge (digits 0 ∷ []) ∷ compared (term.Name n) rel.Le (digits 1 ∷ []) ∷ [])
          (compared term.Answer rel.Ge (minus_digits 3 ∷ []) ∷ compared term.Answer rel.Le (digits 3 ∷ []) ∷ []);
    } ∷ [])

-- skip(n, p) writes n newlines and a zero byte at *p and moves *p; main calls skip(4, &q) over a buffer of that size
abbrev pub cell : PtrTerm
cell = pointer.Star p

abbrev pub skip : Proc
skip = record {
  line = 1;
  answer = answer.Void;
  name = codes "skip";
  formals = formal kind.Int n ∷ formal kind.Pptr p ∷ [];
  contract = record {
    listed = [];
    changes = item.Star p ∷ item.Body cell ∷ [];
    needs = compared (term.Name n) rel.Ge (digits 0 ∷ []) ∷ compared (term.Name n) rel.Lt (plus (term.Alloc cell) ∷ []) ∷ [];
    gives = (atom.SameBase cell (pre_pointer cell) ∷ compared (term.Offset cell) rel.Eq (plus (pre_term (term.Offset cell)) ∷ plus (term.Name n) ∷ []) ∷ []) ∷ [];
  };
  body = Some (record {
    locals = ptr (codes "$1") ∷ [];
    stmts = at 5 (form.If (operand.Var n) rel.Le (num (pos 0)) 8)
        ∷ at 6 (form.Get (codes "$1") p) ∷ at 6 (form.Store (codes "$1") (operand.Number (pos 10)))
        ∷ at 7 (form.Get (codes "$1") p) ∷ at 7 (form.Shift (codes "$1") (codes "$1") (operand.Number (pos 1))) ∷ at 7 (form.Put p (var (codes "$1")))
        ∷ at 8 (form.Minus n (operand.Var n) (operand.Number (pos 1))) ∷ at 5 (form.Goto 0)
        ∷ at 10 (form.Get (codes "$1") p) ∷ at 10 (form.Store (codes "$1") (operand.Number (pos 0))) ∷ at 11 (form.Return None) ∷ [];
  });
}

abbrev pub skips : ℕ → Program
skips size = program
    (proc 12 answer.Int (codes "main") [] no_contract
    (buf b size ∷ record { name = codes "q"; body = local.PointerCell } ∷ ptr (codes "$1") ∷ record { name = codes "w"; body = local.Var kind.Pptr } ∷ [])
    (at 15 (form.Address (codes "$1") b) ∷ at 15 (form.Address (codes "w") (codes "q")) ∷ at 15 (form.Put (codes "w") (var (codes "$1")))
    ∷ at 16 (form.Call None (codes "skip") (num (pos 4) ∷ var (codes "w") ∷ [])) ∷ at 17 (returns_number (pos 0)) ∷ [])
    ∷ skip ∷ [])

-- ---- how their runs end

pub record RunsEnd : Type 0 where
  pub last_byte : number_of (run_main 4 (stores_at (pos 3)) [] [] quiet) ≡ Some (pos 0)
  pub one_step_short : run_main 3 (stores_at (pos 3)) [] [] quiet ≡ Stopped []
  pub past_the_end : run_main 100 (stores_at (pos 4)) [] [] quiet ≡ Error err.Bounds 0 4 []
  pub moved_past_the_end : run_main 100 (stores_at (pos 5)) [] [] quiet ≡ Error err.Bounds 0 3 []
  pub moved_before_the_start : run_main 100 (stores_at (negsuc 0)) [] [] quiet ≡ Error err.Bounds 0 3 []
  pub behind_first_zero : run_main 100 reads_behind [] [] quiet ≡ Error err.Terminator 0 6 []
  pub dead_result : run_main 100 returns_local [] [] quiet ≡ Error err.Dead 0 3 []
  pub nine : number_of (run_main 100 (adds (pos 1)) (value.Int (pos 9) ∷ []) [] quiet) ≡ Some (pos 10)
  pub ten : run_main 100 (adds (pos 1)) (value.Int (pos 10) ∷ []) [] quiet ≡ Error err.Requires 0 1 []
  pub ten_without_steps : run_main 0 (adds (pos 1)) (value.Int (pos 10) ∷ []) [] quiet ≡ Error err.Requires 0 1 []
  pub broken_ensures : run_main 100 (adds (pos 2)) (value.Int (pos 9) ∷ []) [] quiet ≡ Error err.Ensures 0 4 []
  pub down : number_of (run_main 100 counts_down [] [] quiet) ≡ Some (pos 0)
  pub down_in_24 : number_of (run_main 24 counts_down [] [] quiet) ≡ Some (pos 0)
  pub down_in_23 : run_main 23 counts_down [] [] quiet ≡ Stopped []
  pub stopped_recursion : run_main 1000 calls_on [] [] quiet ≡ Stopped []
  pub literal_stored_to : run_main 100 stores_literal [] (hi ∷ []) quiet ≡ Error err.Literal 0 3 []
  pub global_not_modified : run_main 100 (stores_global []) [] (two_bytes ∷ []) quiet ≡ Error err.Modifies 0 3 []
  pub global_modified : number_of (run_main 100 (stores_global (item.Body (pointer.Name (codes "g")) ∷ [])) [] (two_bytes ∷ []) quiet) ≡ Some (pos 7)
  pub argument_not_modified : run_main 100 stores_unasked [] [] quiet ≡ Error err.Modifies 0 3 []
  pub null_load : run_main 100 loads_null [] [] quiet ≡ Error err.Null 0 3 []
  pub wild_is_null : number_of (run_main 9 compares_wild [] [] (world [] (pos 7 ∷ []) [] [])) ≡ Some (pos 2)
  pub wild_is_not_null : number_of (run_main 9 compares_wild [] [] quiet) ≡ Some (pos 1)
  pub malloc_answers_1 : number_of (run_main 9 allocates [] [] (world [] [] (true ∷ []) [])) ≡ Some (pos 0)
  pub malloc_answers_0 : run_main 9 allocates [] [] (world [] [] (false ∷ []) []) ≡ Error err.Null 0 4 []
  pub echo_writes : output_of (run_main 9 echoes [] [] (world (65 ∷ []) [] [] [])) ≡ 65 ∷ 255 ∷ []
  pub input_ends : number_of (run_main 9 echoes [] [] (world (65 ∷ []) [] [] [])) ≡ Some (negsuc 0)
  pub extern_in_range : number_of (run_main 9 asks [] [] (world [] [] [] (pos 2 ∷ []))) ≡ Some (pos 2)
  pub extern_out_of_range : number_of (run_main 9 asks [] [] (world [] [] [] (pos 9 ∷ []))) ≡ Some (negsuc 2)
  pub enough_room : number_of (run_main 100 (skips 5) [] [] quiet) ≡ Some (pos 0)
  pub too_little_room : run_main 100 (skips 4) [] [] quiet ≡ Error err.Requires 0 16 []

-- ---- a program that isn't clean

-- it stores past the end of its buffer
abbrev pub StoresPastItsBuffer : Type 0
StoresPastItsBuffer = Clean (stores_at (pos 4)) → ⊥
