-- The slots of a procedure's variables: the formals, and then the variables among the locals.
use Rattle.std.specs.Prelude.{ℕ, suc, Bool, true, false, List, [], ◌∷◌, ◌++◌, map, Option, Some, None, if◌then◌else◌}
use Rattle.std.specs.List.{filter}
use Rattle.std.specs.Option.{option_map}
use Rattle.std.specs.Str.{bytes_eq}
use Rattle.cv_core.specs.Names.{Name, kind_of, locals_of}
use Rattle.cv_core.specs.declared.program.Program.{Program}
use Rattle.cv_core.specs.declared.program.Proc.{Proc}
use Rattle.cv_core.specs.declared.program.Local.{Local}
use Rattle.cv_core.specs.declared.program.LocalBody.{LocalBody}
use Rattle.cv_core.specs.declared.program.LocalBody.TheVariants as local
use Rattle.cv_meaning.specs.declared.memory.NamedValue.{NamedValue}
use Rattle.cv_meaning.specs.declared.memory.Value.{Value}
use Rattle.cv_meaning.specs.declared.memory.Value.TheVariants as value
use Rattle.cv_meaning.specs.State.{as_kind}
use Rattle.cv_meaning.specs.Contract.{Env}
use Rattle.cv_meaning.specs.Look.{look}

abbrev pub is_variable : LocalBody → Bool
is_variable (local.Var k) = true
is_variable b = false

abbrev pub variables_of : List Local → List Name
variables_of ls = map (λ l. l.name) (filter (λ l. is_variable l.body) ls)

-- the name of each slot
abbrev pub slot_names : Proc → List Name
slot_names f = map (λ x. x.name) f.formals ++ variables_of (locals_of f.body)

-- the first slot that has the name
abbrev pub slot_in : List Name → Name → Option ℕ
slot_in [] x = None
slot_in (n ∷ ns) x = if bytes_eq n x then Some 0 else option_map suc (slot_in ns x)

abbrev pub slot_of : Proc → Name → Option ℕ
slot_of f x = slot_in (slot_names f) x

-- the names with their values, as far as both go
abbrev pub with_values : List Name → List Value → List NamedValue
with_values [] vs = []
with_values (n ∷ ns) [] = []
with_values (n ∷ ns) (v ∷ vs) = record { name = n; value = v } ∷ with_values ns vs

-- what the variables of f hold, where the slots hold vs
unfoldable pub env_of : Proc → List Value → Env
env_of f vs = look (with_values (slot_names f) vs)

-- what a variable of f holds after v was assigned to it
abbrev pub held_as : Program → Proc → Name → Value → Value
held_as P f x (value.Int z) = as_kind P (kind_of f x) z
held_as P f x (value.Ptr p) = value.Ptr p
