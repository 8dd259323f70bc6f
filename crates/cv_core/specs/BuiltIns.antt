-- The built-in procedures as contracts, so that a call of one is read like any other. Only `malloc`, whose answer is an
-- object or none, is none of them.
use Rattle.std.specs.Prelude.{Bool, List, None, Option, Some, [], codes, false, true, ℕ, ◌∷◌}
use Rattle.cv_core.specs.Meant.{built_in, called}
use Rattle.cv_core.specs.Names.{Name}
use Rattle.cv_core.specs.declared.contracts.BuiltIns.{BuiltIns}
use Rattle.cv_core.specs.declared.names.BuiltIn.{BuiltIn}
use Rattle.cv_core.specs.declared.names.BuiltIn.TheVariants as built
use Rattle.cv_core.specs.declared.program.Atom.{Atom}
use Rattle.cv_core.specs.declared.program.Atom.TheVariants as atom
use Rattle.cv_core.specs.declared.program.Formal.{Formal}
use Rattle.cv_core.specs.declared.program.LinPart.{LinPart}
use Rattle.cv_core.specs.declared.program.Proc.{Proc}
use Rattle.cv_core.specs.declared.program.Program.{Program}
use Rattle.cv_core.specs.declared.program.Rel.{Rel}
use Rattle.cv_core.specs.declared.program.Rel.TheVariants as rel
use Rattle.cv_core.specs.declared.program.ResultKind.TheVariants as gives
use Rattle.cv_core.specs.declared.program.Term.TheVariants as term
use Rattle.cv_core.specs.declared.program.VarKind.TheVariants as kind

abbrev pub number : Bool → ℕ → LinPart
number negative n = record { negative = negative; number = Some n; term = None }

abbrev pub the_result : LinPart
the_result = record { negative = false; number = None; term = Some term.Answer }

abbrev pub result_is : Rel → LinPart → Atom
result_is r part = atom.Compare (the_result ∷ []) r (part ∷ [])

-- `result >= least, result <= most`
abbrev pub within : LinPart → LinPart → List Atom
within least most = result_is rel.Ge least ∷ result_is rel.Le most ∷ []

-- a procedure that gives an int for which the atoms hold, and changes nothing
abbrev pub gives_int : Name → List Formal → List Atom → Proc
gives_int name formals atoms = record {
  line = 0;
  answer = gives.Int;
  name = name;
  formals = formals;
  contract = record { listed = []; needs = []; changes = []; gives = atoms ∷ [] };
  body = None;
}

-- `int getchar()`, `ensures result >= -1, result <= 255`
abbrev pub getchar : Proc
getchar = gives_int (codes "getchar") [] (within (number true 1) (number false 255))

-- `int putchar(int c)`, `ensures result >= 0, result <= 255`
abbrev pub putchar : Proc
putchar = gives_int (codes "putchar") (record { kind = kind.Int; name = codes "c" } ∷ []) (within (number false 0) (number false 255))

abbrev pub built_ins : BuiltIns
built_ins = record { getchar = getchar; putchar = putchar }

abbrev pub built_in_proc : BuiltIn → Option Proc
built_in_proc built.Malloc = None
built_in_proc built.Getchar = Some getchar
built_in_proc built.Putchar = Some putchar

abbrev pub proc_or : Option BuiltIn → Option Proc → Option Proc
proc_or None found = found
proc_or (Some b) found = built_in_proc b

-- the procedure by whose contract a call of the name is read; none for `malloc`
abbrev pub callee : Program → Name → Option Proc
callee P x = proc_or (built_in x) (called P x)
