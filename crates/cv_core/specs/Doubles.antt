-- Names that two declarations have.
use Rattle.std.specs.Prelude.{ℕ, Bool, true, false, ◌||◌, List, [], ◌∷◌, take}
use Rattle.std.specs.Option.{is_some}
use Rattle.std.specs.List.{list_any}
use Rattle.std.specs.Str.{bytes_eq}
use Rattle.cv_core.specs.Meant.{built_in, formal_meant, literal_meant, outer_meant}
use Rattle.cv_core.specs.Names.{Name, locals_of}
use Rattle.cv_core.specs.declared.program.Program.{Program}
use Rattle.cv_core.specs.declared.program.GlobalDecl.{GlobalDecl}
use Rattle.cv_core.specs.declared.program.Literal.{Literal}
use Rattle.cv_core.specs.declared.program.Proc.{Proc}
use Rattle.cv_core.specs.declared.program.ProcBody.{ProcBody}
use Rattle.cv_core.specs.declared.program.Formal.{Formal}
use Rattle.cv_core.specs.declared.program.Local.{Local}

-- two items have one name
abbrev pub repeats : {X : Type 0} → (X → Name) → List X → Bool
repeats name [] = false
repeats name (x ∷ xs) = list_any (λ y. bytes_eq (name y) (name x)) xs || repeats name xs

abbrev pub global_twice : Program → Bool
global_twice P = repeats (λ g. g.name) P.globals

-- a literal has the name of another one, or of a global
abbrev pub literal_twice : Program → Bool
literal_twice P = repeats (λ l. l.name) P.literals || list_any (λ g. is_some (literal_meant P g.name)) P.globals

-- the procedure i, which is f, has the name of a built-in procedure or of an earlier one
abbrev pub proc_twice : Program → ℕ → Proc → Bool
proc_twice P i f = is_some (built_in f.name) || list_any (λ g. bytes_eq g.name f.name) (take i P.procs)

-- a formal of f has the name of another one, or of a global or literal
abbrev pub formal_twice : Program → Proc → Bool
formal_twice P f = repeats (λ x. x.name) f.formals || list_any (λ x. is_some (outer_meant P x.name)) f.formals

-- a local of f has the name of another one, of a formal, or of a global or literal
abbrev pub local_twice : Program → Proc → Bool
local_twice P f =
    repeats (λ l. l.name) (locals_of f.body)
    || list_any (λ l. is_some (formal_meant f.formals l.name) || is_some (outer_meant P l.name)) (locals_of f.body)
