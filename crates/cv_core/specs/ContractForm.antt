-- The form of a contract: what each name, `result`, `pre` and `fresh` may stand for, and where.
use Rattle.std.specs.Prelude.{ℕ, Bool, true, false, not, ◌&&◌, ◌||◌, nat_le, List, [], ◌∷◌, Option, Some, None}
use Rattle.std.specs.Option.{is_some}
use Rattle.std.specs.List.{list_all, count_by}
use Rattle.cv_core.specs.Kinds.{means_pptr, means_iptr}
use Rattle.cv_core.specs.Meant.{formal_meant, mentioned_in}
use Rattle.cv_core.specs.Names.{Name}
use Rattle.cv_core.specs.declared.program.Program.{Program}
use Rattle.cv_core.specs.declared.program.Proc.{Proc}
use Rattle.cv_core.specs.declared.program.Contract.{Contract}
use Rattle.cv_core.specs.declared.program.Atom.{Atom}
use Rattle.cv_core.specs.declared.program.Atom.TheVariants as atom
use Rattle.cv_core.specs.declared.program.Item.{Item}
use Rattle.cv_core.specs.declared.program.Item.TheVariants as item
use Rattle.cv_core.specs.declared.program.LinPart.{LinPart}
use Rattle.cv_core.specs.declared.program.Term.{Term, Row_of-Term, end_of-Term, more_of-Term}
use Rattle.cv_core.specs.declared.program.Term.TheVariants as term
use Rattle.cv_core.specs.declared.program.PtrTerm.{PtrTerm, Row_of-PtrTerm, end_of-PtrTerm, more_of-PtrTerm}
use Rattle.cv_core.specs.declared.program.PtrTerm.TheVariants as pointer
use Rattle.cv_core.specs.declared.program.ResultKind.{ResultKind}
use Rattle.cv_core.specs.declared.program.ResultKind.TheVariants as gives
use Rattle.cv_core.specs.declared.program.VarKind.{VarKind}
use Rattle.cv_core.specs.declared.program.VarKind.TheVariants as kind
use Rattle.cv_core.specs.declared.shape.names.Meant.{Meant}
use Rattle.cv_core.specs.declared.shape.names.Meant.TheVariants as meant
use Rattle.cv_core.specs.declared.shape.contracts.Side.{Side}
use Rattle.cv_core.specs.declared.shape.contracts.Side.TheVariants as side

-- ---- where a term stands: in requires, modifies or ensures, or inside `pre`

abbrev pub is_ensures : Side → Bool
is_ensures side.Ensures = true
is_ensures d = false

-- `pre` stands in modifies and ensures, and not inside `pre`
abbrev pub allows_pre : Side → Bool
allows_pre side.Modifies = true
allows_pre side.Ensures = true
allows_pre d = false

-- ---- what a name may stand for

-- a pointer: a `ptr` formal, a pointer global, or the start of a global buffer
abbrev pub names_pointer : Option Meant → Bool
names_pointer (Some (meant.Variable kind.Ptr)) = true
names_pointer (Some meant.Buffer) = true
names_pointer (Some meant.PointerCell) = true
names_pointer m = false

-- a number: an int or char formal, or an int global
abbrev pub names_number : Option Meant → Bool
names_number (Some (meant.Variable kind.Int)) = true
names_number (Some (meant.Variable kind.Char)) = true
names_number (Some meant.IntCell) = true
names_number m = false

-- a cell: a pointer or int global
abbrev pub names_cell : Option Meant → Bool
names_cell (Some meant.PointerCell) = true
names_cell (Some meant.IntCell) = true
names_cell m = false

-- a global of any kind
abbrev pub names_global : Option Meant → Bool
names_global (Some meant.Buffer) = true
names_global (Some meant.PointerCell) = true
names_global (Some meant.IntCell) = true
names_global m = false

abbrev pub gives_pointer : ResultKind → Bool
gives_pointer gives.Ptr = true
gives_pointer k = false

abbrev pub gives_number : ResultKind → Bool
gives_number gives.Int = true
gives_number gives.Char = true
gives_number k = false

-- ---- pointers and terms

abbrev mutual
  pub pointer_formed : Program → Proc → Side → PtrTerm → Bool
  pointer_formed P f d (pointer.Name x) = names_pointer (mentioned_in P f x)
  pointer_formed P f d (pointer.Star x) = means_pptr (mentioned_in P f x)
  pointer_formed P f d pointer.Answer = is_ensures d && gives_pointer f.answer
  pointer_formed P f d (pointer.Pre' s held) = allows_pre d && pointer_held_formed P f held

  pub pointer_held_formed : Program → Proc → {n : _} → Row_of-PtrTerm n → Bool
  pointer_held_formed P f end_of-PtrTerm = false
  pointer_held_formed P f (more_of-PtrTerm t rest) = pointer_formed P f side.Entry t

abbrev mutual
  pub term_formed : Program → Proc → Side → Term → Bool
  term_formed P f d (term.Name x) = names_number (mentioned_in P f x)
  term_formed P f d (term.Star x) = means_iptr (mentioned_in P f x)
  term_formed P f d term.Answer = is_ensures d && gives_number f.answer
  term_formed P f d (term.Pre' s held) = allows_pre d && term_held_formed P f held
  term_formed P f d (term.Alloc p) = pointer_formed P f d p
  term_formed P f d (term.Offset p) = pointer_formed P f d p
  term_formed P f d (term.Strlen p) = pointer_formed P f d p

  pub term_held_formed : Program → Proc → {n : _} → Row_of-Term n → Bool
  term_held_formed P f end_of-Term = false
  term_held_formed P f (more_of-Term t rest) = term_formed P f side.Entry t

-- a factor before a term is at most 65535
abbrev pub part_formed : Program → Proc → Side → Option ℕ → Option Term → Bool
part_formed P f d k None = true
part_formed P f d None (Some t) = term_formed P f d t
part_formed P f d (Some k) (Some t) = nat_le k 65535 && term_formed P f d t

abbrev pub lin_formed : Program → Proc → Side → List LinPart → Bool
lin_formed P f d parts = list_all (λ p. part_formed P f d p.number p.term) parts

-- ---- atoms

-- a formal that isn't written *w, also under `pre`
abbrev mutual
  pub is_plain_formal : Proc → PtrTerm → Bool
  is_plain_formal f (pointer.Name x) = is_some (formal_meant f.formals x)
  is_plain_formal f (pointer.Star x) = false
  is_plain_formal f pointer.Answer = false
  is_plain_formal f (pointer.Pre' s held) = is_plain_formal_held f held

  pub is_plain_formal_held : Proc → {n : _} → Row_of-PtrTerm n → Bool
  is_plain_formal_held f end_of-PtrTerm = false
  is_plain_formal_held f (more_of-PtrTerm t rest) = is_plain_formal f t

abbrev pub fresh_formed : Program → Proc → Side → PtrTerm → Bool
fresh_formed P f d p = is_ensures d && pointer_formed P f d p && not (is_plain_formal f p)

abbrev pub atom_formed : Program → Proc → Side → Atom → Bool
atom_formed P f d (atom.Null p equal) = pointer_formed P f d p
atom_formed P f d (atom.Nullt p) = pointer_formed P f d p
atom_formed P f d (atom.Clear p) = pointer_formed P f d p
atom_formed P f d (atom.Fresh p) = fresh_formed P f d p
atom_formed P f d (atom.Apart p q) = pointer_formed P f d p && pointer_formed P f d q
atom_formed P f d (atom.SameBase p q) = pointer_formed P f d p && pointer_formed P f d q
atom_formed P f d (atom.Compare left r right) = lin_formed P f d left && lin_formed P f d right

abbrev pub is_fresh : Atom → Bool
is_fresh (atom.Fresh p) = true
is_fresh a = false

-- an alternative has at most one `fresh`
abbrev pub alternative_formed : Program → Proc → List Atom → Bool
alternative_formed P f atoms = list_all (atom_formed P f side.Ensures) atoms && nat_le (count_by is_fresh atoms) 1

-- ---- a modifies item is an object: a buffer, the cell of a `pptr` or `iptr` formal, or a cell that is a global

abbrev pub item_formed : Program → Proc → Item → Bool
item_formed P f (item.Body p) = pointer_formed P f side.Modifies p
item_formed P f (item.Star x) = means_pptr (mentioned_in P f x) || means_iptr (mentioned_in P f x)
item_formed P f (item.Name x) = names_cell (mentioned_in P f x)

-- ---- the contract of f

abbrev pub contract_formed : Program → Proc → Contract → Bool
contract_formed P f c =
    list_all (λ x. names_global (mentioned_in P f x)) c.listed && list_all (atom_formed P f side.Requires) c.needs
    && list_all (item_formed P f) c.changes && list_all (alternative_formed P f) c.gives
