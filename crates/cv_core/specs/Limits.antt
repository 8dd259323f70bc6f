-- The limits on the parts of a program, in the order in which they are tested.
use Rattle.std.specs.Prelude.{ℕ, suc, ◌+◌, ◌≡◌, Bool, false, ◌||◌, nat_lt, List, [], ◌∷◌, length, Option, Some}
use Rattle.std.specs.List.{list_any, find}
use Rattle.cv_core.specs.Names.{locals_of, stmts_of}
use Rattle.cv_core.specs.declared.faults.LimitFault.{LimitFault}
use Rattle.cv_core.specs.declared.faults.LimitName.{LimitName}
use Rattle.cv_core.specs.declared.faults.LimitName.TheVariants as limit
use Rattle.cv_core.specs.declared.program.Program.{Program}
use Rattle.cv_core.specs.declared.program.Proc.{Proc}
use Rattle.cv_core.specs.declared.program.Contract.{Contract}
use Rattle.cv_core.specs.declared.program.Atom.{Atom}
use Rattle.cv_core.specs.declared.program.Atom.TheVariants as atom

-- the greatest count that each limit of a program allows
abbrev pub most : LimitName → ℕ
most limit.Procedures = 256
most limit.Globals = 256
most limit.Literals = 1024
most limit.Literal = 4096
most limit.Formals = 8
most limit.Locals = 200
most limit.Statements = 1000
most limit.Atoms = 16
most limit.Parts = 12
most limit.Alternatives = 8
most n = 0

abbrev pub passes : LimitName → ℕ → Bool
passes which count = nat_lt (most which) count

-- ---- what is counted of a procedure

-- the variables and objects, the formals among them
abbrev pub variable_count : Proc → ℕ
variable_count f = length f.formals + length (locals_of f.body)

-- the parts of both sides of an atom
abbrev pub part_count : Atom → ℕ
part_count (atom.Compare left r right) = length left + length right
part_count a = 0

-- requires, or some alternative of ensures, passes the test
abbrev pub some_atoms : (List Atom → Bool) → Contract → Bool
some_atoms test c = test c.needs || list_any test c.gives

abbrev pub has_many_atoms : Contract → Bool
has_many_atoms c = some_atoms (λ atoms. passes limit.Atoms (length atoms)) c

abbrev pub has_many_parts : Contract → Bool
has_many_parts c = some_atoms (list_any (λ a. passes limit.Parts (part_count a))) c

-- ---- the limits of a program

abbrev pub is_passed : Program → LimitName → Bool
is_passed P limit.Procedures = passes limit.Procedures (length P.procs)
is_passed P limit.Globals = passes limit.Globals (length P.globals)
is_passed P limit.Literals = passes limit.Literals (length P.literals)
is_passed P limit.Literal = list_any (λ l. passes limit.Literal (length l.bytes)) P.literals
is_passed P limit.Formals = list_any (λ f. passes limit.Formals (length f.formals)) P.procs
is_passed P limit.Locals = list_any (λ f. passes limit.Locals (variable_count f)) P.procs
is_passed P limit.Statements = list_any (λ f. passes limit.Statements (length (stmts_of f.body))) P.procs
is_passed P limit.Atoms = list_any (λ f. has_many_atoms f.contract) P.procs
is_passed P limit.Parts = list_any (λ f. has_many_parts f.contract) P.procs
is_passed P limit.Alternatives = list_any (λ f. passes limit.Alternatives (length f.contract.gives)) P.procs
is_passed P n = false

abbrev pub tested : List LimitName
tested =
    limit.Procedures ∷ limit.Globals ∷ limit.Literals ∷ limit.Literal ∷ limit.Formals ∷ limit.Locals ∷ limit.Statements ∷ limit.Atoms
    ∷ limit.Parts ∷ limit.Alternatives ∷ []

-- the first limit, in the order of the tests, that the program passes
abbrev pub first_limit : Program → Option LimitName
first_limit P = find (is_passed P) tested

-- the fault of that limit; its count is the first one that is too great
pub record IsFirstLimit (P : Program) (e : LimitFault) : Type 0 where
  pub first : first_limit P ≡ Some e.which
  pub count : e.count ≡ suc (most e.which)
