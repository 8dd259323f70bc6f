-- The faults of a program's shape: at each place those of the rules that stand there, in the order of the rules, and the
-- places in the order in which they are walked.
use Rattle.std.specs.Prelude.{ℕ, zero, suc, ◌≡◌, ◌<◌, ◌++◌, Bool, true, false, not, ◌&&◌, ◌||◌, nat_lt, List, [], ◌∷◌, length, map, slice_get, Option, Some, None, Contains, if◌then◌else◌}
use Rattle.std.specs.List.{filter, list_any}
use Rattle.cv_core.specs.ContractForm.{contract_formed}
use Rattle.cv_core.specs.Doubles.{formal_twice, global_twice, literal_twice, local_twice, proc_twice}
use Rattle.cv_core.specs.Headings.{breaks_extern, breaks_main, is_empty_body, is_main}
use Rattle.cv_core.specs.Kinds.{has_count, has_kinds}
use Rattle.cv_core.specs.Named.{mentions_unknown, mentions_unlisted, names_unknown, names_unlisted}
use Rattle.cv_core.specs.Names.{stmts_of}
use Rattle.cv_core.specs.declared.faults.ShapeFault.{ShapeFault}
use Rattle.cv_core.specs.declared.faults.ShapeRule.{ShapeRule}
use Rattle.cv_core.specs.declared.faults.ShapeRule.TheVariants as rule
use Rattle.cv_core.specs.declared.program.Program.{Program}
use Rattle.cv_core.specs.declared.program.Proc.{Proc}
use Rattle.cv_core.specs.declared.program.ProcBody.{ProcBody}
use Rattle.cv_core.specs.declared.program.Stmt.{Stmt}
use Rattle.cv_core.specs.declared.program.Form.{Form}
use Rattle.cv_core.specs.declared.program.Form.TheVariants as form
use Rattle.cv_core.specs.declared.shape.rules.RuleTest.{RuleTest}
use Rattle.cv_core.specs.declared.shape.ShapeError.{ShapeError}
use Rattle.cv_core.specs.declared.shape.ShapeError.TheVariants as refusal

-- ---- jumps and ends

abbrev pub is_within : Proc → ℕ → Bool
is_within f to = nat_lt to (length (stmts_of f.body))

-- a jump goes to a statement of its procedure
abbrev pub jumps_within : Proc → Form → Bool
jumps_within f (form.Goto to) = is_within f to
jumps_within f (form.If e r g to) = is_within f to
jumps_within f (form.IfByte p equal to) = is_within f to
jumps_within f form = true

-- a body may end with a return or a plain goto
abbrev pub may_end : Form → Bool
may_end (form.Return e) = true
may_end (form.Goto to) = true
may_end form = false

abbrev pub calls_main : Form → Bool
calls_main (form.Call into g args) = is_main g
calls_main form = false

-- ---- the rules that are tested at each place, in their order

abbrev pub test : ShapeRule → Bool → RuleTest
test r stands = record { rule = r; stands = stands }

abbrev pub standing : List RuleTest → List ShapeRule
standing tests = map (λ t. t.rule) (filter (λ t. t.stands) tests)

abbrev pub global_tests : Program → List RuleTest
global_tests P = test rule.DoubleName (global_twice P) ∷ []

abbrev pub literal_tests : Program → List RuleTest
literal_tests P = test rule.DoubleName (literal_twice P) ∷ []

-- the heading of the procedure i, which is f, with its formals
abbrev pub heading_tests : Program → ℕ → Proc → List RuleTest
heading_tests P i f =
    test rule.DoubleName (proc_twice P i f || formal_twice P f)
    ∷ test rule.NoReturn (is_empty_body f.body)
    ∷ test rule.MainForm (breaks_main f)
    ∷ test rule.ExternForm (breaks_extern f)
    ∷ []

abbrev pub has_body : Option ProcBody → Bool
has_body None = false
has_body (Some b) = true

abbrev pub contract_tests : Program → Proc → List RuleTest
contract_tests P f =
    test rule.UnknownName (mentions_unknown P f)
    ∷ test rule.UnlistedGlobal (has_body f.body && mentions_unlisted P f)
    ∷ test rule.ContractForm (not (contract_formed P f f.contract))
    ∷ []

abbrev pub local_tests : Program → Proc → List RuleTest
local_tests P f = test rule.DoubleName (local_twice P f) ∷ []

-- a statement of f, the last one or not
abbrev pub statement_tests : Program → Proc → Bool → Form → List RuleTest
statement_tests P f last form =
    test rule.UnknownName (names_unknown P f form)
    ∷ test rule.KindMismatch (not (has_kinds P f form))
    ∷ test rule.ArgumentCount (not (has_count P form))
    ∷ test rule.JumpOutOfRange (not (jumps_within f form))
    ∷ test rule.NoReturn (last && not (may_end form))
    ∷ test rule.UnlistedGlobal (names_unlisted P f form)
    ∷ test rule.MainForm (calls_main form)
    ∷ []

abbrev pub has_main : Program → Bool
has_main P = list_any (λ f. is_main f.name) P.procs

abbrev pub end_tests : Program → List RuleTest
end_tests P = test rule.NoMain (not (has_main P)) ∷ []

-- ---- the faults, in the order of the places

-- a number as a fault can have it: none is greater than 2^32 - 1
abbrev pub fault_number : ℕ → ℕ
fault_number n = if nat_lt n 4294967295 then n else 4294967295

-- the faults of a place with a line in the procedure i
abbrev pub faults_at : ℕ → ℕ → List RuleTest → List ShapeFault
faults_at i line tests = map (λ r. record { rule = r; proc = fault_number i; line = line }) (standing tests)

-- the faults of a place in no procedure
abbrev pub faults_nowhere : List RuleTest → List ShapeFault
faults_nowhere tests = map (λ r. record { rule = r; proc = 4294967295; line = 1 }) (standing tests)

abbrev pub is_last : List Stmt → Bool
is_last [] = true
is_last (s ∷ rest) = false

-- the faults of the statements of the procedure i, which is f, from one on
abbrev pub body_faults : Program → ℕ → Proc → List Stmt → List ShapeFault
body_faults P i f [] = []
body_faults P i f (s ∷ rest) = faults_at i s.line (statement_tests P f (is_last rest) s.form) ++ body_faults P i f rest

abbrev pub proc_faults : Program → ℕ → Proc → List ShapeFault
proc_faults P i f =
    faults_at i f.line (heading_tests P i f) ++ faults_at i f.line (contract_tests P f) ++ faults_at i f.line (local_tests P f)
    ++ body_faults P i f (stmts_of f.body)

-- the faults of the procedures from the procedure i on
abbrev pub procs_faults : Program → ℕ → List Proc → List ShapeFault
procs_faults P i [] = []
procs_faults P i (f ∷ fs) = proc_faults P i f ++ procs_faults P (suc i) fs

abbrev pub faults : Program → List ShapeFault
faults P = faults_nowhere (global_tests P) ++ faults_nowhere (literal_tests P) ++ procs_faults P 0 P.procs ++ faults_nowhere (end_tests P)

abbrev pub first_fault : Program → Option ShapeFault
first_fault P = slice_get (faults P) 0

abbrev pub IsShapeFault : Program → ShapeFault → Type 0
IsShapeFault P e = Contains (faults P) e

-- no fault stands in the program
abbrev pub IsWellFormed : Program → Type 0
IsWellFormed P = faults P ≡ []

-- what a refusal says: the first fault, or that memory was wanting
abbrev pub IsFirstFault : Program → ShapeError → Type 0
IsFirstFault P (refusal.Fault e) = first_fault P ≡ Some e
IsFirstFault P refusal.Memory = Unit {0}
