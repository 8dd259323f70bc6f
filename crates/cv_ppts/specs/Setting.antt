-- A case as a procedure's statements see it: its targets, and the places of the sets of codes. Targets are numbered
-- from 1: the blocks, the local objects, and a buffer for each statement that allocates.
use Rattle.std.specs.Prelude.{Bool, List, None, Option, Some, [], bytes_eq, codes as text, count_by, drop, false, if◌then◌else◌, is_some, length, map, max, nat_eq, nat_le, option_map, slice_get, slice_index_or, suc, take, true, zero, ℕ, ◌+◌, ◌-◌, ◌||◌, ◌∷◌, ◌≡◌, ◌<◌}
use Rattle.std.specs.List.{list_any}
use Rattle.cv_core.specs.Meant.{built_in, called}
use Rattle.cv_core.specs.Names.{Name, is_pointer_cell, objects_of, place_of, stmts_of}
use Rattle.cv_core.specs.declared.program.Atom.{Atom}
use Rattle.cv_core.specs.declared.program.Form.{Form}
use Rattle.cv_core.specs.declared.program.Proc.{Proc}
use Rattle.cv_core.specs.declared.program.Program.{Program}
use Rattle.cv_points.specs.Holders.{pointer_count, pointer_formals}
use Rattle.cv_ppts.specs.Allowed.{code_at, number_among}
use Rattle.cv_ppts.specs.Entities.{class_at, class_of_kind, global_number, listed_of, literals_of, same_class}
use Rattle.cv_ppts.specs.declared.entities.Class.{Class}
use Rattle.cv_core.specs.declared.program.Atom.TheVariants as atom
use Rattle.cv_core.specs.declared.program.Form.TheVariants as form
use Rattle.cv_ppts.specs.declared.entities.Class.TheVariants as class

pub record Setting : Type 0 where
  pub program : Program
  pub proc : Proc
  -- the codes of the entities
  pub codes : List ℕ

-- ---- entities

abbrev pub formal_count : Setting → ℕ
formal_count s = length (pointer_formals s.proc)

abbrev pub listed : Setting → List ℕ
listed s = listed_of s.program s.proc

abbrev pub literals : Setting → List ℕ
literals s = literals_of s.program s.proc

-- the place of the first content's code
abbrev pub first_content : Setting → ℕ
first_content s = formal_count s + length (listed s) + length (literals s)

-- the block of a global; 0 where it isn't listed
abbrev pub global_code : Setting → Option ℕ → ℕ
global_code s n = code_at s.codes (option_map (λ k. formal_count s + k) (number_among (listed s) n))

-- the block of a literal; 0 where no statement names it
abbrev pub literal_code : Setting → Option ℕ → ℕ
literal_code s n = code_at s.codes (option_map (λ k. formal_count s + length (listed s) + k) (number_among (literals s) n))

abbrev pub literal_codes : Setting → List ℕ
literal_codes s = take (length (literals s)) (drop (formal_count s + length (listed s)) s.codes)

-- ---- blocks

abbrev pub greatest : List ℕ → ℕ
greatest [] = 0
greatest (n ∷ ns) = max n (greatest ns)

-- how many blocks there are
abbrev pub block_count : Setting → ℕ
block_count s = greatest s.codes

-- the class of the first of some entities that has the code
abbrev pub class_with : ℕ → List ℕ → List Class → Option Class
class_with b ks [] = None
class_with b [] (c ∷ cs) = None
class_with b (k ∷ ks) (c ∷ cs) = if nat_eq k b then Some c else class_with b ks cs

abbrev pub formal_classes : Proc → List Class
formal_classes f = map (λ x. class_of_kind x.kind) (pointer_formals f)

abbrev pub global_classes : Program → List ℕ → List Class
global_classes P ns = map (λ n. class_at (slice_get P.globals n)) ns

abbrev pub class_or : Option Class → Option Class → Class
class_or (Some c) later = c
class_or None (Some c) = c
class_or None None = class.Buffer

-- the class of a block by its first formal or global; literals and contents are buffers
abbrev pub block_class : Setting → ℕ → Class
block_class s b =
    class_or (class_with b s.codes (formal_classes s.proc)) (class_with b (drop (formal_count s) s.codes) (global_classes s.program (listed s)))

abbrev pub is_cell_block : Setting → ℕ → Bool
is_cell_block s b = same_class (block_class s b) class.PointerCell

-- how many of the first n blocks are of pointer cells
abbrev pub cell_blocks : Setting → ℕ → ℕ
cell_blocks s zero = 0
cell_blocks s (suc n) = if is_cell_block s (suc n) then suc (cell_blocks s n) else cell_blocks s n

-- ---- the places of sets: of the pointer variables, and then of the contents of pointer cells, by target

abbrev pub object_cells : Proc → List Bool
object_cells f = map (λ l. is_pointer_cell l.body) (objects_of f)

-- the number of the pointer cell at a place among the pointer cells
abbrev pub cell_number : List Bool → ℕ → Option ℕ
cell_number [] n = None
cell_number (c ∷ cs) zero = if c then Some 0 else None
cell_number (c ∷ cs) (suc n) = if c then option_map suc (cell_number cs n) else cell_number cs n

abbrev pub block_content : Setting → ℕ → Option ℕ
block_content s zero = None
block_content s (suc n) = if is_cell_block s (suc n) then Some (pointer_count s.proc + cell_blocks s n) else None

abbrev pub object_content : Setting → ℕ → Option ℕ
object_content s n = option_map (λ k. pointer_count s.proc + cell_blocks s (block_count s) + k) (cell_number (object_cells s.proc) n)

-- the place of the set of what a target holds; None where it is no pointer cell
abbrev pub content_place : Setting → ℕ → Option ℕ
content_place s t = if nat_le t (block_count s) then block_content s t else object_content s (t - suc (block_count s))

-- how many sets there are
abbrev pub set_count : Setting → ℕ
set_count s = pointer_count s.proc + cell_blocks s (block_count s) + count_by (λ c. c) (object_cells s.proc)

-- ---- targets of statements

abbrev pub target_in : Setting → Option ℕ → Option ℕ → Option ℕ → ℕ
target_in s (Some n) global literal = block_count s + suc n
target_in s None (Some n) literal = global_code s (Some n)
target_in s None None literal = literal_code s literal

-- the target of `&a`: a local object, or the block of a global or of a literal
abbrev pub target_of_name : Setting → Name → ℕ
target_of_name s a =
    target_in s (place_of (λ l. l.name) a (objects_of s.proc)) (global_number s.program a) (place_of (λ l. l.name) a s.program.literals)

-- the procedure of the program that a name calls: the first one, and none for a built-in name
abbrev pub callee : Program → Name → Option Proc
callee P g = if is_some (built_in g) then None else called P g

abbrev pub is_fresh : Atom → Bool
is_fresh (atom.Fresh p) = true
is_fresh a = false

abbrev pub gives_fresh : Option Proc → Bool
gives_fresh None = false
gives_fresh (Some g) = list_any (list_any is_fresh) g.contract.gives

-- a statement that calls malloc or a procedure with `fresh` in ensures
abbrev pub allocates : Program → Form → Bool
allocates P (form.Call into g args) = bytes_eq g (text "malloc") || gives_fresh (callee P g)
allocates P m = false

-- the target of what the statement k allocates
abbrev pub new_target : Setting → ℕ → ℕ
new_target s k = block_count s + length (objects_of s.proc) + suc (count_by (λ x. allocates s.program x.form) (take k (stmts_of s.proc.body)))

-- ---- what is looked up once

-- the places of the sets of what the first targets hold
abbrev pub AreContents : Setting → List (Option ℕ) → Type 0
AreContents s places = (t : ℕ) → t < length places → slice_index_or places t None ≡ content_place s t

-- there are fewer targets than 31 bits count, even if each statement allocated
abbrev pub HasRoom : Setting → Type 0
HasRoom s = block_count s + length (objects_of s.proc) + length (stmts_of s.proc.body) < 2147483647

pub record IsKnown (s : Setting) (count : Option ℕ) (places : List (Option ℕ)) : Type 0 where
  pub room : HasRoom s
  pub literals : (n : ℕ) → count ≡ Some n → n ≡ length (literals_of s.program s.proc)
  pub contents : AreContents s places
