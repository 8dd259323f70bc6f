-- The choices of codes at a call, and what a contract's names stand for under one.
use Rattle.std.specs.Prelude.{Bool, Contains, List, None, Option, Some, [], drop, false, filter, if◌then◌else◌, is_some, length, nat_eq, nat_le, nat_lt, not, slice_get, slice_index_or, suc, take, true, ℕ, ◌&&◌, ◌-◌, ◌||◌, ◌∷◌, ◌≡◌}
use Rattle.std.specs.List.{list_any}
use Rattle.cv_core.specs.Names.{Name, is_pointer_kind, place_of}
use Rattle.cv_core.specs.declared.program.AnyOperand.{AnyOperand}
use Rattle.cv_core.specs.declared.program.Formal.{Formal}
use Rattle.cv_core.specs.declared.program.Item.{Item}
use Rattle.cv_core.specs.declared.program.Proc.{Proc}
use Rattle.cv_core.specs.declared.program.VarKind.{VarKind}
use Rattle.cv_points.specs.Holders.{variable_number}
use Rattle.cv_ppts.specs.Entities.{class_at, global_number, is_member, same_class}
use Rattle.cv_ppts.specs.Numbers.{entity_code}
use Rattle.cv_ppts.specs.Paths.{Named, Path, Starred, path_of}
use Rattle.cv_ppts.specs.Plain.{Sets, codes_at}
use Rattle.cv_ppts.specs.Setting.{Setting, block_count, cell_blocks, content_place, first_content, global_code, literal_codes}
use Rattle.cv_ppts.specs.declared.code.Code.{Code}
use Rattle.cv_core.specs.declared.program.AnyOperand.TheVariants as any
use Rattle.cv_core.specs.declared.program.Item.TheVariants as item
use Rattle.cv_core.specs.declared.program.Operand.TheVariants as operand
use Rattle.cv_core.specs.declared.program.VarKind.TheVariants as kind
use Rattle.cv_ppts.specs.declared.code.Code.TheVariants as code
use Rattle.cv_ppts.specs.declared.entities.Class.TheVariants as class

pub record Choice : Type 0 where
  -- the codes of the formals by number
  pub formal : ℕ → Code
  -- the codes of what pointer cells hold, by target
  pub cell : ℕ → Code

-- the target of a code
abbrev pub target_of : Code → Option ℕ
target_of (code.Target t) = Some t
target_of c = None

-- ---- what names stand for, in the contract of g

abbrev pub is_cell_class : Option ℕ → Setting → Bool
is_cell_class None s = false
is_cell_class (Some n) s = same_class (class_at (slice_get s.program.globals n)) class.PointerCell

abbrev pub formal_number : Proc → Name → Option ℕ
formal_number g x = place_of (λ y. y.name) x g.formals

-- a formal, else the block of a global
abbrev pub code_from : Setting → Choice → Option ℕ → Option ℕ → Code
code_from s K (Some i) global = K.formal i
code_from s K None global = entity_code (global_code s global)

abbrev pub code_of_name : Setting → Proc → Choice → Name → Code
code_of_name s g K x = code_from s K (formal_number g x) (global_number s.program x)

-- the cell whose content a name is, where it is that of a pointer global
abbrev pub cell_from : Setting → Option ℕ → Option ℕ → Option ℕ
cell_from s (Some i) global = None
cell_from s None global = if is_cell_class global s then target_of (entity_code (global_code s global)) else None

abbrev pub is_content_name : Setting → Option ℕ → Option ℕ → Bool
is_content_name s (Some i) global = false
is_content_name s None global = is_cell_class global s

-- the cell whose content a pointer of the contract is
abbrev pub cell_of : Setting → Proc → Choice → Path → Option ℕ
cell_of s g K (Named x) = cell_from s (formal_number g x) (global_number s.program x)
cell_of s g K (Starred w) = target_of (code_of_name s g K w)
cell_of s g K x = None

abbrev pub held_by : Choice → Option ℕ → Option Code
held_by K None = None
held_by K (Some t) = Some (K.cell t)

abbrev pub named_code : Setting → Proc → Choice → Name → Option Code
named_code s g K x =
    if is_content_name s (formal_number g x) (global_number s.program x) then held_by K (cell_from s (formal_number g x) (global_number s.program x))
    else Some (code_of_name s g K x)

-- the code of a pointer before the call; None for a `*w` that is undefined, and for the result
abbrev pub code_before : Setting → Proc → Choice → Path → Option Code
code_before s g K (Named x) = named_code s g K x
code_before s g K (Starred w) = held_by K (target_of (code_of_name s g K w))
code_before s g K x = None

abbrev pub object_of : Option Code → Option ℕ
object_of None = None
object_of (Some c) = target_of c

-- the target with the object that a modifies item names
abbrev pub item_target : Setting → Proc → Choice → Item → Option ℕ
item_target s g K (item.Body p) = object_of (code_before s g K (path_of p))
item_target s g K (item.Star w) = target_of (code_of_name s g K w)
item_target s g K (item.Name x) = target_of (code_of_name s g K x)

abbrev pub is_target : ℕ → Option ℕ → Bool
is_target t None = false
is_target t (Some n) = nat_eq n t

-- some modifies item names the object of a target
abbrev pub is_modified : Setting → Proc → Choice → ℕ → Bool
is_modified s g K t = list_any (λ i. is_target t (item_target s g K i)) g.contract.changes

-- ---- whether a call changes a pointer

abbrev pub is_cell_kind : VarKind → Bool
is_cell_kind kind.Pptr = true
is_cell_kind k = false

abbrev pub is_cell_formal : Option Formal → Bool
is_cell_formal None = false
is_cell_formal (Some x) = is_cell_kind x.kind

abbrev pub formal_at : Proc → Option ℕ → Option Formal
formal_at g None = None
formal_at g (Some i) = slice_get g.formals i

-- an item that can be a pointer cell: `*w` of a `pptr` formal w, or a pointer global
abbrev pub can_be_cell : Setting → Proc → Item → Bool
can_be_cell s g (item.Body p) = false
can_be_cell s g (item.Star w) = is_cell_formal (formal_at g (formal_number g w))
can_be_cell s g (item.Name x) = is_cell_class (global_number s.program x) s

-- the destination is a pointer, or a modifies item can be a pointer cell
abbrev pub changes_pointer : Setting → Proc → Option ℕ → Bool
changes_pointer s g into = is_some into || list_any (can_be_cell s g) g.contract.changes

-- ---- the procedure's own contract at its entry

abbrev pub earlier_pointers : Proc → ℕ → ℕ
earlier_pointers f i = length (filter (λ x. is_pointer_kind x.kind) (take i f.formals))

-- how many blocks of pointer cells stand before a block
abbrev pub earlier_cells : Setting → ℕ → ℕ
earlier_cells s t = if nat_le t (block_count s) then cell_blocks s (t - 1) else 0

-- the codes with which the procedure is entered
abbrev pub entry : Setting → Choice
entry s = record {
  formal = λ i. entity_code (slice_index_or s.codes (earlier_pointers s.proc i) 0);
  cell = λ t. entity_code (slice_index_or (drop (first_content s) s.codes) (earlier_cells s t) 0);
}

-- a local object, what a statement allocates, or a block with the object of a modifies item
abbrev pub is_permitted : Setting → ℕ → Bool
is_permitted s t = nat_lt (block_count s) t || is_modified s s.proc (entry s) t

-- an object that may not be among those that a call modifies
abbrev pub is_refused : Setting → Option ℕ → Bool
is_refused s None = false
is_refused s (Some t) = is_member t (literal_codes s) || not (is_permitted s t)

-- ---- choices

abbrev pub codes_of_place : Sets → Option ℕ → List Code
codes_of_place T None = []
codes_of_place T (Some h) = codes_at T h

abbrev pub argument_codes : Setting → Sets → Option AnyOperand → List Code
argument_codes s T None = []
argument_codes s T (Some any.Null) = code.Null ∷ []
argument_codes s T (Some (any.Operand (operand.Var x))) = codes_of_place T (variable_number s.proc x)
argument_codes s T (Some (any.Operand (operand.Number z))) = []

abbrev pub set_for : Option Formal → List Code → Option (List Code)
set_for None cs = None
set_for (Some x) cs = if is_pointer_kind x.kind then Some cs else None

-- the codes that a pointer formal can have
abbrev pub argument_set : Setting → Sets → Proc → List AnyOperand → ℕ → Option (List Code)
argument_set s T g args i = set_for (slice_get g.formals i) (argument_codes s T (slice_get args i))

abbrev pub starred_cell : VarKind → Code → Option ℕ
starred_cell kind.Pptr c = target_of c
starred_cell k c = None

-- the cell of a `pptr` formal, from the i-th formal on
abbrev pub is_starred : (ℕ → Code) → ℕ → ℕ → List Formal → Bool
is_starred formal t i [] = false
is_starred formal t i (x ∷ xs) = is_target t (starred_cell x.kind (formal i)) || is_starred formal t (suc i) xs

abbrev pub listed_cell : Setting → Name → Option ℕ
listed_cell s x = cell_from s None (global_number s.program x)

-- the cells of the `pptr` formals and of the listed pointer globals
abbrev pub is_named_cell : Setting → Proc → (ℕ → Code) → ℕ → Bool
is_named_cell s g formal t = is_starred formal t 0 g.formals || list_any (λ x. is_target t (listed_cell s x)) g.contract.listed

abbrev pub cell_set : Setting → Sets → Bool → ℕ → Option (List Code)
cell_set s T named t = if named then Some (codes_of_place T (content_place s t)) else None

-- a code of a set; nothing is known where there is none
abbrev pub IsPick : Option (List Code) → Code → Type 0
IsPick None c = c ≡ code.Unknown
IsPick (Some cs) c = Contains cs c

-- each pointer formal has a code of its argument, and each cell that is named one of its content
pub record IsChoice (s : Setting) (T : Sets) (g : Proc) (args : List AnyOperand) (K : Choice) : Type 0 where
  pub formals : (i : ℕ) → IsPick (argument_set s T g args i) (K.formal i)
  pub cells : (t : ℕ) → IsPick (cell_set s T (is_named_cell s g K.formal t) t) (K.cell t)

-- ---- choices that fail

abbrev pub is_unknown : Code → Bool
is_unknown code.Unknown = true
is_unknown c = false

abbrev pub is_unknown_cell : Choice → Option ℕ → Bool
is_unknown_cell K None = false
is_unknown_cell K (Some t) = is_unknown (K.cell t)

abbrev pub is_unknown_formal : Choice → VarKind → ℕ → Bool
is_unknown_formal K kind i = (is_pointer_kind kind && is_unknown (K.formal i)) || is_unknown_cell K (starred_cell kind (K.formal i))

abbrev pub has_unknown_formal : Choice → ℕ → List Formal → Bool
has_unknown_formal K i [] = false
has_unknown_formal K i (x ∷ xs) = is_unknown_formal K x.kind i || has_unknown_formal K (suc i) xs

-- nothing is known of a formal or of a cell that is named, or an item is that of a literal or isn't permitted
abbrev pub is_failing : Setting → Proc → Choice → Bool
is_failing s g K =
    has_unknown_formal K 0 g.formals
    || list_any (λ x. is_unknown_cell K (listed_cell s x)) g.contract.listed
    || list_any (λ i. is_refused s (item_target s g K i)) g.contract.changes
