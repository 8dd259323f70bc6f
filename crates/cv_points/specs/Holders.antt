-- The holders of pointers, each of which has a set of sites, and the sites of objects.
use Rattle.std.specs.Prelude.{Bool, List, None, Option, Some, false, if◌then◌else◌, length, map, sum, take, true, zero, suc, ℕ, ◌+◌, ◌++◌}
use Rattle.std.specs.List.{count_by, filter, flat_map, slice_index_or}
use Rattle.std.specs.Option.{option_map}
use Rattle.cv_core.specs.Names.{Name, is_pointer_cell, is_pointer_global, is_pointer_kind, is_pointer_local, local_site, locals_of, objects_of, place_of}
use Rattle.cv_core.specs.declared.program.Formal.{Formal}
use Rattle.cv_core.specs.declared.program.GlobalBody.{GlobalBody}
use Rattle.cv_core.specs.declared.program.Local.{Local}
use Rattle.cv_core.specs.declared.program.LocalBody.{LocalBody}
use Rattle.cv_core.specs.declared.program.Proc.{Proc}
use Rattle.cv_core.specs.declared.program.ProcBody.{ProcBody}
use Rattle.cv_core.specs.declared.program.Program.{Program}
use Rattle.cv_core.specs.declared.program.ResultKind.{ResultKind}
use Rattle.cv_core.specs.declared.program.VarKind.{VarKind}
use Rattle.cv_core.specs.declared.program.ResultKind.TheVariants as gives
use Rattle.cv_core.specs.declared.program.GlobalBody.TheVariants as global
use Rattle.cv_core.specs.declared.program.VarKind.TheVariants as kind
use Rattle.cv_core.specs.declared.program.LocalBody.TheVariants as local

-- ---- pointer variables

abbrev pub pointer_formals : Proc → List Formal
pointer_formals f = filter (λ x. is_pointer_kind x.kind) f.formals

abbrev pub pointer_locals : Proc → List Local
pointer_locals f = filter (λ l. is_pointer_local l.body) (locals_of f.body)

abbrev pub pointer_count : Proc → ℕ
pointer_count f = length (pointer_formals f) + length (pointer_locals f)

abbrev pub or_else : Option ℕ → Option ℕ → Option ℕ
or_else None later = later
or_else (Some n) later = Some n

-- the number of a pointer variable among those of its procedure: the formals, then the locals
abbrev pub variable_number : Proc → Name → Option ℕ
variable_number f x =
    or_else (place_of (λ y. y.name) x (pointer_formals f))
    (option_map (λ n. length (pointer_formals f) + n) (place_of (λ l. l.name) x (pointer_locals f)))

abbrev pub gives_pointer : ResultKind → Bool
gives_pointer gives.Ptr = true
gives_pointer k = false

-- the number of the pointer result, after those of the variables
abbrev pub result_number : Proc → Option ℕ
result_number f = if gives_pointer f.answer then Some (pointer_count f) else None

abbrev pub body_holders : Proc → Option ProcBody → ℕ
body_holders f None = 0
body_holders f (Some b) = pointer_count f + (if gives_pointer f.answer then 1 else 0)

-- how many holders a procedure has: none without a body
abbrev pub holder_count : Proc → ℕ
holder_count f = body_holders f f.body

-- the place of the first holder of procedure i
abbrev pub first_holder : Program → ℕ → ℕ
first_holder P i = sum (map holder_count (take i P.procs))

-- the place of a holder by its number behind a first one
abbrev pub place_from : ℕ → Option ℕ → Option ℕ
place_from first n = option_map (λ k. first + k) n

abbrev pub variable_place : ℕ → Proc → Name → Option ℕ
variable_place first f x = place_from first (variable_number f x)

abbrev pub result_place : ℕ → Proc → Option ℕ
result_place first f = place_from first (result_number f)

-- ---- pointer cells

abbrev pub global_cells : Program → List Bool
global_cells P = map (λ g. is_pointer_global g.body) P.globals

abbrev pub object_cells : Program → List Bool
object_cells P = map (λ l. is_pointer_cell l.body) (flat_map objects_of P.procs)

-- for each global, literal and local object, from site 1 on, whether it is a pointer cell
abbrev pub cells : Program → List Bool
cells P = global_cells P ++ map (λ l. false) P.literals ++ object_cells P

-- how many pointer cells stand before the one at s
abbrev pub cell_number : List Bool → ℕ → Option ℕ
cell_number cs s = if slice_index_or cs s false then Some (count_by (λ c. c) (take s cs)) else None

-- the place of the site of a pointer cell, behind the holders of all procedures
abbrev pub cell_place : Program → ℕ → Option ℕ
cell_place P zero = None
cell_place P (suc s) = place_from (first_holder P (length P.procs)) (cell_number (cells P) s)

-- how many sets a family has
abbrev pub holders : Program → ℕ
holders P = first_holder P (length P.procs) + count_by (λ c. c) (cells P)

-- ---- sites

-- the site of the object that &a names in the procedure i, which is f: its own objects, then the globals and the literals
abbrev pub site_of : Program → ℕ → Proc → Name → Option ℕ
site_of P i f a =
    or_else (option_map (λ n. local_site P i + n) (place_of (λ l. l.name) a (objects_of f)))
    (or_else (option_map (λ n. 1 + n) (place_of (λ g. g.name) a P.globals))
    (option_map (λ n. 1 + length P.globals + n) (place_of (λ l. l.name) a P.literals)))
