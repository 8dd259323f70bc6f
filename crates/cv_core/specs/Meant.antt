-- What a name stands for: in a procedure's body and in its contract; and the procedures that a call can name.
use Rattle.std.specs.Prelude.{ℕ, Bool, true, false, List, [], ◌∷◌, map, Option, Some, None, if◌then◌else◌, codes}
use Rattle.std.specs.Option.{option_map, option_or, is_some}
use Rattle.std.specs.List.{find}
use Rattle.std.specs.Str.{bytes_eq}
use Rattle.cv_core.specs.Names.{Name, locals_of}
use Rattle.cv_core.specs.declared.program.Program.{Program}
use Rattle.cv_core.specs.declared.program.GlobalDecl.{GlobalDecl}
use Rattle.cv_core.specs.declared.program.GlobalBody.{GlobalBody}
use Rattle.cv_core.specs.declared.program.GlobalBody.TheVariants as global
use Rattle.cv_core.specs.declared.program.Literal.{Literal}
use Rattle.cv_core.specs.declared.program.Proc.{Proc}
use Rattle.cv_core.specs.declared.program.ProcBody.{ProcBody}
use Rattle.cv_core.specs.declared.program.Formal.{Formal}
use Rattle.cv_core.specs.declared.program.Local.{Local}
use Rattle.cv_core.specs.declared.program.LocalBody.{LocalBody}
use Rattle.cv_core.specs.declared.program.LocalBody.TheVariants as local
use Rattle.cv_core.specs.declared.program.ResultKind.{ResultKind}
use Rattle.cv_core.specs.declared.program.ResultKind.TheVariants as gives
use Rattle.cv_core.specs.declared.program.VarKind.{VarKind}
use Rattle.cv_core.specs.declared.program.VarKind.TheVariants as kind
use Rattle.cv_core.specs.declared.shape.names.Meant.{Meant}
use Rattle.cv_core.specs.declared.shape.names.Meant.TheVariants as meant
use Rattle.cv_core.specs.declared.names.BuiltIn.{BuiltIn}
use Rattle.cv_core.specs.declared.names.BuiltIn.TheVariants as built

-- ---- variables and objects

abbrev pub meant_by_local : LocalBody → Meant
meant_by_local (local.Var k) = meant.Variable k
meant_by_local (local.Buffer n) = meant.Buffer
meant_by_local local.PointerCell = meant.PointerCell
meant_by_local local.IntCell = meant.IntCell

abbrev pub meant_by_global : GlobalBody → Meant
meant_by_global (global.Buffer n) = meant.Buffer
meant_by_global global.Pointer = meant.PointerCell
meant_by_global global.Int = meant.IntCell

-- the first of the name counts
abbrev pub formal_meant : List Formal → Name → Option Meant
formal_meant fs x = option_map (λ f. meant.Variable f.kind) (find (λ f. bytes_eq f.name x) fs)

abbrev pub local_meant : List Local → Name → Option Meant
local_meant ls x = option_map (λ l. meant_by_local l.body) (find (λ l. bytes_eq l.name x) ls)

abbrev pub global_meant : Program → Name → Option Meant
global_meant P x = option_map (λ g. meant_by_global g.body) (find (λ g. bytes_eq g.name x) P.globals)

-- a literal is a buffer
abbrev pub literal_meant : Program → Name → Option Meant
literal_meant P x = option_map (λ l. meant.Buffer) (find (λ l. bytes_eq l.name x) P.literals)

-- a variable or object of the procedure itself
abbrev pub own_meant : Proc → Name → Option Meant
own_meant f x = option_or (formal_meant f.formals x) (local_meant (locals_of f.body) x)

-- a global or a literal
abbrev pub outer_meant : Program → Name → Option Meant
outer_meant P x = option_or (global_meant P x) (literal_meant P x)

-- what a name stands for in the body of f
abbrev pub meant_in : Program → Proc → Name → Option Meant
meant_in P f x = option_or (own_meant f x) (outer_meant P x)

-- what a name stands for in the contract of f: a formal or a global
abbrev pub mentioned_in : Program → Proc → Name → Option Meant
mentioned_in P f x = option_or (formal_meant f.formals x) (global_meant P x)

abbrev pub is_global : Program → Name → Bool
is_global P x = is_some (global_meant P x)

-- ---- procedures; a built-in one goes first

abbrev pub built_in : Name → Option BuiltIn
built_in x =
    if bytes_eq x (codes "malloc") then Some built.Malloc
    else if bytes_eq x (codes "getchar") then Some built.Getchar
    else if bytes_eq x (codes "putchar") then Some built.Putchar
    else None

-- the first procedure of the name
abbrev pub called : Program → Name → Option Proc
called P x = find (λ h. bytes_eq h.name x) P.procs

abbrev pub built_in_answer : BuiltIn → ResultKind
built_in_answer built.Malloc = gives.Ptr
built_in_answer built.Getchar = gives.Int
built_in_answer built.Putchar = gives.Int

abbrev pub built_in_kinds : BuiltIn → List VarKind
built_in_kinds built.Malloc = kind.Int ∷ []
built_in_kinds built.Getchar = []
built_in_kinds built.Putchar = kind.Int ∷ []

abbrev pub kinds_of : Proc → List VarKind
kinds_of f = map (λ x. x.kind) f.formals
