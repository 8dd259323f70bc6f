-- The printed form of a contract: each clause on a line of its own, and none for an empty one.
use Rattle.std.specs.Prelude.{ℕ, Bool, true, false, List, [], ◌∷◌, ◌++◌, codes, decimal, flat_map, Option, Some, None}
use Rattle.cv_core.specs.declared.program.Contract.{Contract}
use Rattle.cv_core.specs.declared.program.PtrTerm.{PtrTerm, Row_of-PtrTerm, end_of-PtrTerm, more_of-PtrTerm}
use Rattle.cv_core.specs.declared.program.PtrTerm.TheVariants as pointer
use Rattle.cv_core.specs.declared.program.Term.{Term, Row_of-Term, end_of-Term, more_of-Term}
use Rattle.cv_core.specs.declared.program.Term.TheVariants as term
use Rattle.cv_core.specs.declared.program.LinPart.{LinPart}
use Rattle.cv_core.specs.declared.program.Atom.{Atom}
use Rattle.cv_core.specs.declared.program.Atom.TheVariants as atom
use Rattle.cv_core.specs.declared.program.Item.{Item}
use Rattle.cv_core.specs.declared.program.Item.TheVariants as item
use Rattle.cv_core.specs.declared.program.Rel.{Rel}
use Rattle.cv_core.specs.declared.program.Rel.TheVariants as rel

-- the texts of the items, with a separator between each two
abbrev pub joined : {A : Type 0} → List ℕ → (A → List ℕ) → List A → List ℕ
joined separator text [] = []
joined separator text (a ∷ rest) = text a ++ flat_map (λ b. separator ++ text b) rest

abbrev pub rel_text : Rel → List ℕ
rel_text rel.Eq = codes " == "
rel_text rel.Ne = codes " != "
rel_text rel.Lt = codes " < "
rel_text rel.Le = codes " <= "
rel_text rel.Gt = codes " > "
rel_text rel.Ge = codes " >= "

-- ---- pointers and terms

abbrev mutual
  pub pointer_text : PtrTerm → List ℕ
  pointer_text (pointer.Name x) = x
  pointer_text (pointer.Star x) = codes "*" ++ x
  pointer_text pointer.Answer = codes "result"
  pointer_text (pointer.Pre' s held) = codes "pre(" ++ pointer_held_text held ++ codes ")"

  pub pointer_held_text : {n : _} → Row_of-PtrTerm n → List ℕ
  pointer_held_text end_of-PtrTerm = []
  pointer_held_text (more_of-PtrTerm t rest) = pointer_text t

abbrev mutual
  pub term_text : Term → List ℕ
  term_text (term.Name x) = x
  term_text (term.Star x) = codes "*" ++ x
  term_text term.Answer = codes "result"
  term_text (term.Pre' s held) = codes "pre(" ++ term_held_text held ++ codes ")"
  term_text (term.Alloc p) = codes "alloc(" ++ pointer_text p ++ codes ")"
  term_text (term.Offset p) = codes "offset(" ++ pointer_text p ++ codes ")"
  term_text (term.Strlen p) = codes "strlen(" ++ pointer_text p ++ codes ")"

  pub term_held_text : {n : _} → Row_of-Term n → List ℕ
  term_held_text end_of-Term = []
  term_held_text (more_of-Term t rest) = term_text t

-- ---- sums and atoms

abbrev pub factor_text : Option ℕ → Option Term → List ℕ
factor_text None None = []
factor_text None (Some t) = term_text t
factor_text (Some k) None = decimal k
factor_text (Some k) (Some t) = decimal k ++ codes " * " ++ term_text t

abbrev pub first_sign_text : Bool → List ℕ
first_sign_text true = codes "-"
first_sign_text false = []

abbrev pub later_sign_text : Bool → List ℕ
later_sign_text true = codes " - "
later_sign_text false = codes " + "

abbrev pub later_part_text : LinPart → List ℕ
later_part_text p = later_sign_text p.negative ++ factor_text p.number p.term

abbrev pub sum_text : List LinPart → List ℕ
sum_text [] = []
sum_text (p ∷ rest) = first_sign_text p.negative ++ factor_text p.number p.term ++ flat_map later_part_text rest

abbrev pub null_text : Bool → List ℕ
null_text true = codes " == null"
null_text false = codes " != null"

abbrev pub atom_text : Atom → List ℕ
atom_text (atom.Null p equal) = pointer_text p ++ null_text equal
atom_text (atom.Nullt p) = codes "nullt(" ++ pointer_text p ++ codes ")"
atom_text (atom.Clear p) = codes "clear(" ++ pointer_text p ++ codes ")"
atom_text (atom.Fresh p) = codes "fresh(" ++ pointer_text p ++ codes ")"
atom_text (atom.Apart p q) = codes "apart(" ++ pointer_text p ++ codes ", " ++ pointer_text q ++ codes ")"
atom_text (atom.SameBase p q) = codes "base(" ++ pointer_text p ++ codes ") == base(" ++ pointer_text q ++ codes ")"
atom_text (atom.Compare left r right) = sum_text left ++ rel_text r ++ sum_text right

abbrev pub item_text : Item → List ℕ
item_text (item.Body p) = codes "body(" ++ pointer_text p ++ codes ")"
item_text (item.Star x) = codes "*" ++ x
item_text (item.Name x) = x

-- ---- clauses

abbrev pub clause_text : {A : Type 0} → List ℕ → List ℕ → (A → List ℕ) → List A → List ℕ
clause_text begin separator text [] = []
clause_text begin separator text (a ∷ rest) = begin ++ joined separator text (a ∷ rest) ++ codes ";" ++ 10 ∷ []

abbrev pub atoms_text : List Atom → List ℕ
atoms_text atoms = joined (codes ", ") atom_text atoms

unfoldable pub contract_text : Contract → List ℕ
contract_text c = clause_text (codes "uses ") (codes ", ") (λ x. x) c.listed
    ++ clause_text (codes "requires ") (codes ", ") atom_text c.needs
    ++ clause_text (codes "modifies ") (codes ", ") item_text c.changes
    ++ clause_text (codes "ensures ") (codes " | ") atoms_text c.gives
