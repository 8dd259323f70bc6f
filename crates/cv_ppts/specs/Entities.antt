-- The entities of a procedure that an alias case gives codes: pointer formals, listed globals, named literals, and
-- what blocks of pointer cells hold.
use Rattle.std.specs.Prelude.{Bool, List, None, Option, Some, [], false, flat_map, if◌then◌else◌, length, map, slice_get, suc, true, ℕ, ◌++◌, ◌+◌, ◌==◌, ◌∷◌}
use Rattle.std.specs.List.{list_any}
use Rattle.cv_core.specs.Names.{Name, is_pointer_kind, place_of, stmts_of}
use Rattle.cv_core.specs.declared.program.Form.{Form}
use Rattle.cv_core.specs.declared.program.Formal.{Formal}
use Rattle.cv_core.specs.declared.program.GlobalBody.{GlobalBody}
use Rattle.cv_core.specs.declared.program.GlobalDecl.{GlobalDecl}
use Rattle.cv_core.specs.declared.program.Proc.{Proc}
use Rattle.cv_core.specs.declared.program.Program.{Program}
use Rattle.cv_core.specs.declared.program.VarKind.{VarKind}
use Rattle.cv_points.specs.Closed.{Family, set_at}
use Rattle.cv_points.specs.Holders.{cell_place, first_holder}
use Rattle.cv_ppts.specs.declared.entities.Block.{Block}
use Rattle.cv_ppts.specs.declared.entities.Class.{Class}
use Rattle.cv_ppts.specs.declared.entities.Entity.{Entity}
use Rattle.cv_core.specs.declared.program.Form.TheVariants as form
use Rattle.cv_core.specs.declared.program.GlobalBody.TheVariants as global
use Rattle.cv_core.specs.declared.program.VarKind.TheVariants as kind
use Rattle.cv_ppts.specs.declared.entities.Class.TheVariants as class

-- ---- classes

abbrev pub same_class : Class → Class → Bool
same_class class.Buffer class.Buffer = true
same_class class.PointerCell class.PointerCell = true
same_class class.IntCell class.IntCell = true
same_class a b = false

-- the class of the objects to which a pointer variable points
abbrev pub class_of_kind : VarKind → Class
class_of_kind kind.Pptr = class.PointerCell
class_of_kind kind.Iptr = class.IntCell
class_of_kind k = class.Buffer

abbrev pub class_of_global : GlobalBody → Class
class_of_global (global.Buffer n) = class.Buffer
class_of_global global.Pointer = class.PointerCell
class_of_global global.Int = class.IntCell

-- ---- pointer formals, whose sets stand from the place k on

abbrev pub formal_entity : Family → ℕ → VarKind → Entity
formal_entity S k kind = record { nullable = true; class = class_of_kind kind; sites = set_at S k }

abbrev pub formal_entities : Family → ℕ → List Formal → List Entity
formal_entities S k [] = []
formal_entities S k (x ∷ xs) =
    if is_pointer_kind x.kind then formal_entity S k x.kind ∷ formal_entities S (suc k) xs else formal_entities S k xs

-- ---- listed globals and named literals, each once

abbrev pub is_member : ℕ → List ℕ → Bool
is_member n ns = list_any (λ m. m == n) ns

-- each number once, at its first place, without those that were seen
abbrev pub distinct_behind : List ℕ → List ℕ → List ℕ
distinct_behind seen [] = []
distinct_behind seen (n ∷ ns) =
    if is_member n seen then distinct_behind seen ns else n ∷ distinct_behind (seen ++ n ∷ []) ns

abbrev pub distinct : List ℕ → List ℕ
distinct ns = distinct_behind [] ns

abbrev pub as_list : Option ℕ → List ℕ
as_list None = []
as_list (Some n) = n ∷ []

abbrev pub global_number : Program → Name → Option ℕ
global_number P x = place_of (λ g. g.name) x P.globals

-- the globals that the contract lists, by number, in the order of `uses`
abbrev pub listed_of : Program → Proc → List ℕ
listed_of P f = distinct (flat_map (λ x. as_list (global_number P x)) f.contract.listed)

abbrev pub class_at : Option GlobalDecl → Class
class_at None = class.Buffer
class_at (Some g) = class_of_global g.body

abbrev pub global_entity : Program → ℕ → Entity
global_entity P n = record { nullable = false; class = class_at (slice_get P.globals n); sites = suc n ∷ [] }

abbrev pub literal_in : Program → Form → Option ℕ
literal_in P (form.Address p a) = place_of (λ l. l.name) a P.literals
literal_in P m = None

-- the literals that the statements name, by number, in the order in which they first do
abbrev pub literals_of : Program → Proc → List ℕ
literals_of P f = distinct (flat_map (λ s. as_list (literal_in P s.form)) (stmts_of f.body))

abbrev pub literal_entity : Program → ℕ → Entity
literal_entity P n = record { nullable = false; class = class.Buffer; sites = suc (length P.globals + n) ∷ [] }

-- all entities of the procedure i, which is f, but contents
abbrev pub named_entities : Program → Family → ℕ → Proc → List Entity
named_entities P S i f =
    formal_entities S (first_holder P i) f.formals ++ map (global_entity P) (listed_of P f) ++ map (literal_entity P) (literals_of P f)

-- ---- contents of blocks of pointer cells

-- what a cell of a site holds; nothing where the site is no pointer cell's
abbrev pub held_at : Family → Option ℕ → List ℕ
held_at S None = []
held_at S (Some k) = set_at S k

abbrev pub held : Program → Family → ℕ → List ℕ
held P S s = held_at S (cell_place P s)

abbrev pub content_entity : Program → Family → List ℕ → Entity
content_entity P S sites = record { nullable = true; class = class.Buffer; sites = flat_map (held P S) sites }

abbrev pub content_entities : Program → Family → List Block → List Entity
content_entities P S [] = []
content_entities P S (b ∷ bs) =
    if same_class b.class class.PointerCell then content_entity P S b.sites ∷ content_entities P S bs else content_entities P S bs
