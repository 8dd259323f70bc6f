-- What the codes of an alias case say of a procedure's contract at entry, also while only the first entities have codes.
use Rattle.std.specs.Prelude.{Bool, List, None, Option, Some, drop, false, if◌then◌else◌, length, nat_eq, nat_lt, not, slice_get, slice_index_or, suc, take, true, zero, ℕ, ◌&&◌, ◌+◌, position}
use Rattle.std.specs.List.{count_by, list_any}
use Rattle.std.specs.Option.{option_and_then, option_map}
use Rattle.cv_core.specs.Names.{Name, place_of}
use Rattle.cv_core.specs.declared.program.Atom.{Atom}
use Rattle.cv_core.specs.declared.program.Item.{Item}
use Rattle.cv_core.specs.declared.program.Proc.{Proc}
use Rattle.cv_core.specs.declared.program.Program.{Program}
use Rattle.cv_points.specs.Holders.{or_else, pointer_formals}
use Rattle.cv_ppts.specs.Entities.{class_at, global_number, is_member, same_class}
use Rattle.cv_ppts.specs.Numbers.{entity_code}
use Rattle.cv_ppts.specs.Paths.{Named, Path, Starred, path_of}
use Rattle.cv_ppts.specs.Status.{Codes, is_false, status_of}
use Rattle.cv_ppts.specs.declared.code.Code.{Code}
use Rattle.cv_ppts.specs.declared.entities.Block.{Block}
use Rattle.cv_ppts.specs.declared.status.Status.{Status}
use Rattle.cv_core.specs.declared.program.Item.TheVariants as item
use Rattle.cv_ppts.specs.declared.code.Code.TheVariants as code
use Rattle.cv_ppts.specs.declared.entities.Class.TheVariants as class
use Rattle.cv_ppts.specs.declared.status.Status.TheVariants as status

-- a case as a contract at entry sees it
pub record Scene : Type 0 where
  pub program : Program
  pub proc : Proc
  -- the listed globals by number
  pub listed : List ℕ
  -- how many entities are no contents
  pub named : ℕ
  pub blocks : List Block
  -- the codes of all entities, or of the first of them
  pub codes : List ℕ

-- ---- the codes of names and contents

-- the number at a place; 0 where there is none
abbrev pub code_at : List ℕ → Option ℕ → ℕ
code_at codes None = 0
code_at codes (Some k) = slice_index_or codes k 0

abbrev pub number_among : List ℕ → Option ℕ → Option ℕ
number_among ns None = None
number_among ns (Some n) = position (λ m. nat_eq m n) ns

-- unknown, where the entity has no code yet
abbrev pub code_or_unknown : Option ℕ → Code
code_or_unknown None = code.Unknown
code_or_unknown (Some n) = entity_code n

-- the code of the entity with a number; null, where there is no entity
abbrev pub code_of_entity : List ℕ → Option ℕ → Code
code_of_entity codes None = code.Null
code_of_entity codes (Some k) = code_or_unknown (slice_get codes k)

-- the number of the entity that has a name: a pointer formal, else a listed global
abbrev pub entity_number : Scene → Name → Option ℕ
entity_number s x =
    or_else (place_of (λ y. y.name) x (pointer_formals s.proc))
    (option_map (λ k. length (pointer_formals s.proc) + k) (number_among s.listed (global_number s.program x)))

abbrev pub code_of_name : Scene → Name → Code
code_of_name s x = code_of_entity s.codes (entity_number s x)

abbrev pub is_cell_block : Block → Bool
is_cell_block b = same_class b.class class.PointerCell

-- the number of the entity that is what the block with a code holds
abbrev pub content_number : Scene → ℕ → ℕ
content_number s b = s.named + count_by is_cell_block (take b s.blocks)

-- the code of what the block with a code holds; unknown, where there is no such block yet
abbrev pub code_of_content : Scene → Code → Code
code_of_content s code.Unknown = code.Unknown
code_of_content s (code.Target (suc b)) =
    if nat_lt b (length s.blocks) then code_of_entity s.codes (Some (content_number s b)) else code.Unknown
code_of_content s k = code.Null

abbrev pub is_pointer_global : Scene → Name → Bool
is_pointer_global s x = same_class (class_at (option_and_then (slice_get s.program.globals) (global_number s.program x))) class.PointerCell

abbrev pub named_code : Scene → Name → Code
named_code s x = if is_pointer_global s x then code_of_content s (code_of_name s x) else code_of_name s x

-- `*w` is undefined where w is null
abbrev pub starred_code : Scene → Code → Option Code
starred_code s code.Null = None
starred_code s k = Some (code_of_content s k)

-- the code of a pointer at entry
abbrev pub pointer_code : Scene → Path → Option Code
pointer_code s (Named x) = Some (named_code s x)
pointer_code s (Starred w) = starred_code s (code_of_name s w)
pointer_code s p = None

-- `*i` is defined where i isn't null
abbrev pub defined_by : Code → Status
defined_by code.Unknown = status.Unknown
defined_by code.Null = status.False
defined_by k = status.Known

abbrev pub number_status : Scene → Path → Status
number_status s (Starred i) = defined_by (code_of_name s i)
number_status s p = status.Known

-- the codes under which the contract is read at entry
abbrev pub codes_at_entry : Scene → Codes
codes_at_entry s = record {
  code = λ before x. pointer_code s x;
  number = number_status s;
  dies = λ k. false;
  is_made = λ k. false;
}

abbrev pub is_false_atom : Scene → Atom → Bool
is_false_atom s a = is_false (status_of (codes_at_entry s) false a)

-- ---- literals that would be modified

-- the code of the pointer to the object that a modifies item names
abbrev pub item_code : Scene → Item → Option Code
item_code s (item.Body p) = pointer_code s (path_of p)
item_code s (item.Star w) = Some (code_of_name s w)
item_code s (item.Name x) = Some (code_of_name s x)

abbrev pub is_among : List ℕ → Option Code → Bool
is_among blocks (Some (code.Target b)) = is_member b blocks
is_among blocks k = false

abbrev pub is_changed_literal : Scene → List ℕ → Item → Bool
is_changed_literal s literals i = is_among literals (item_code s i)

-- the codes of the entities that are no contents; those of literals stand last
abbrev pub named_codes : Scene → List ℕ
named_codes s = take s.named s.codes

abbrev pub literal_codes : Scene → List ℕ
literal_codes s = drop (length (pointer_formals s.proc) + length s.listed) (named_codes s)

-- no atom of requires is false, and no block holds a literal and the object of a modifies item, as far as the codes that
-- there are tell
abbrev pub is_allowed : Scene → Bool
is_allowed s =
    not (list_any (is_false_atom s) s.proc.contract.needs)
    && not (list_any (is_changed_literal s (literal_codes s)) s.proc.contract.changes)
