-- A contract that a text spells has the form that the grammar alone asks.
use Rattle.std.proofs.Common.{◌≡◌, ℕ, ◌<◌, ◌≤◌, Bool, List, [], ◌∷◌, length, Option, Some, None, arith}
use Rattle.std.specs.List.{All}
use Rattle.cv_core.specs.Grammar.{IsName, IsPointer, IsPointerHeld, IsTerm, IsTermHeld, IsFactor, IsLin, IsAtom, IsItem, IsAlternative, IsContract}
use Rattle.cv_core.specs.declared.program.Contract.{Contract}
use Rattle.cv_core.specs.declared.program.PtrTerm.{PtrTerm, Row_of-PtrTerm, end_of-PtrTerm, more_of-PtrTerm}
use Rattle.cv_core.specs.declared.program.PtrTerm.TheVariants as pointer
use Rattle.cv_core.specs.declared.program.Term.{Term, Row_of-Term, end_of-Term, more_of-Term}
use Rattle.cv_core.specs.declared.program.Term.TheVariants as term
use Rattle.cv_core.specs.declared.program.LinPart.{LinPart}
use Rattle.cv_core.specs.declared.program.Atom.{Atom}
use Rattle.cv_core.specs.declared.program.Atom.TheVariants as atom
use Rattle.cv_core.specs.declared.program.Item.{Item}
use Rattle.cv_core.specs.declared.program.Item.TheVariants as item
use Rattle.cv_core.specs.declared.program.Rel.{Rel}
use Rattle.cv_core.specs.declared.program.Rel.TheVariants as rel
use Rattle.cv_text.specs.declared.token.Sign.TheVariants as sign
use Rattle.cv_text.specs.Tokens.{Line}
use Rattle.cv_text.specs.Grammar.{Name, Mark}
use Rattle.cv_text.specs.Clauses.{Applied, Pointer, PointerHeld, TermText, TermHeld, Factor, LaterParts, Linear, SumRelation, AtomText, ItemText, Clause, Atoms, ContractText}
use Rattle.cv_text.proofs.Written.{AllFine, split, name_fine, each_by, none_of, separated_fine}

-- ---- what stands in brackets behind a word

abbrev Inside : (Line → Type 0) → Type 0
Inside p = (text : Line) × p text × AllFine text

inside : {p : Line → Type 0} (f : List ℕ) (text : Line) → Applied f p text → AllFine text → Inside p
inside f text h fine = let a1 = split text h fine in let a2 = split a1.1 a1.3 a1.5 in let a3 = split a2.1 a2.3 a2.5 in (a3.0, a3.2, a3.4)

-- ---- pointers and terms

mutual
  pointer_fine : (p : PtrTerm) (text : Line) → Pointer p text → AllFine text → IsPointer p
  pointer_fine (pointer.Name x) text h fine = name_fine x text h fine
  pointer_fine (pointer.Star x) text h fine = let a1 = split text h fine in name_fine x a1.1 a1.3 a1.5
  pointer_fine pointer.Answer text h fine = tt
  pointer_fine (pointer.Pre' s held) text h fine = let i = inside _ text h fine in held_pointer_fine held i.0 i.1 i.2

  held_pointer_fine : {n : _} (held : Row_of-PtrTerm n) (text : Line) → PointerHeld held text → AllFine text → IsPointerHeld held
  held_pointer_fine end_of-PtrTerm text h fine = tt
  held_pointer_fine (more_of-PtrTerm t rest) text h fine = pointer_fine t text h fine

mutual
  term_fine : (t : Term) (text : Line) → TermText t text → AllFine text → IsTerm t
  term_fine (term.Name x) text h fine = name_fine x text h fine
  term_fine (term.Star x) text h fine = let a1 = split text h fine in name_fine x a1.1 a1.3 a1.5
  term_fine term.Answer text h fine = tt
  term_fine (term.Pre' s held) text h fine = let i = inside _ text h fine in held_term_fine held i.0 i.1 i.2
  term_fine (term.Alloc p) text h fine = let i = inside _ text h fine in pointer_fine p i.0 i.1 i.2
  term_fine (term.Offset p) text h fine = let i = inside _ text h fine in pointer_fine p i.0 i.1 i.2
  term_fine (term.Strlen p) text h fine = let i = inside _ text h fine in pointer_fine p i.0 i.1 i.2

  held_term_fine : {n : _} (held : Row_of-Term n) (text : Line) → TermHeld held text → AllFine text → IsTermHeld held
  held_term_fine end_of-Term text h fine = tt
  held_term_fine (more_of-Term t rest) text h fine = term_fine t text h fine

-- ---- sums

factor_fine : (k : Option ℕ) (t : Option Term) (text : Line) → Factor k t text → AllFine text → IsFactor k t
factor_fine None None text h fine = h
factor_fine None (Some t) text h fine = term_fine t text h fine
factor_fine (Some k) None text h fine = h.1
factor_fine (Some k) (Some t) text h fine = let a1 = split text h fine in let a2 = split a1.1 a1.3 a1.5 in (a1.2.1, term_fine t a2.1 a2.3 a2.5)

abbrev IsPart : LinPart → Type 0
IsPart p = IsFactor p.number p.term

later_fine : (parts : List LinPart) (text : Line) → LaterParts parts text → AllFine text → All IsPart parts
later_fine [] text h fine = none_of IsPart
later_fine (p ∷ rest) text h fine =
    let a1 = split text h fine in
    let a2 = split a1.1 a1.3 a1.5 in
    each_by IsPart p rest (factor_fine p.number p.term a2.0 a2.2 a2.4) (later_fine rest a2.1 a2.3 a2.5)

linear_fine : (parts : List LinPart) (text : Line) → Linear parts text → AllFine text → IsLin parts
linear_fine [] text h fine = absurd h
linear_fine (p ∷ rest) text h fine =
    let a1 = split text h fine in
    let a2 = split a1.1 a1.3 a1.5 in
    (omega arith, each_by IsPart p rest (factor_fine p.number p.term a2.0 a2.2 a2.4) (later_fine rest a2.1 a2.3 a2.5))

-- ---- atoms and items

two_sums : (left right : List LinPart) (r : Rel) (text : Line) → AtomText (atom.Compare left r right) text → AllFine text → IsLin left × IsLin right
two_sums left right r text h fine = let a1 = split text h fine in let a2 = split a1.1 a1.3 a1.5 in (linear_fine left a1.0 a1.2 a1.4, linear_fine right a2.1 a2.3 a2.5)

never_unequal : (left right : List LinPart) (text : Line) → AtomText (atom.Compare left rel.Ne right) text → AllFine text → ⊥
never_unequal left right text h fine = let a1 = split text h fine in let a2 = split a1.1 a1.3 a1.5 in a2.2

atom_fine : (a : Atom) (text : Line) → AtomText a text → AllFine text → IsAtom a
atom_fine (atom.Null p equal) text h fine = let a1 = split text h fine in pointer_fine p a1.0 a1.2 a1.4
atom_fine (atom.Nullt p) text h fine = let i = inside _ text h fine in pointer_fine p i.0 i.1 i.2
atom_fine (atom.Clear p) text h fine = let i = inside _ text h fine in pointer_fine p i.0 i.1 i.2
atom_fine (atom.Fresh p) text h fine = let i = inside _ text h fine in pointer_fine p i.0 i.1 i.2
atom_fine (atom.Apart p q) text h fine =
    let i = inside _ text h fine in
    let a1 = split i.0 i.1 i.2 in
    let a2 = split a1.1 a1.3 a1.5 in
    (pointer_fine p a1.0 a1.2 a1.4, pointer_fine q a2.1 a2.3 a2.5)
atom_fine (atom.SameBase p q) text h fine =
    let a1 = split text h fine in
    let a2 = split a1.1 a1.3 a1.5 in
    let i = inside _ a1.0 a1.2 a1.4 in
    let j = inside _ a2.1 a2.3 a2.5 in
    (pointer_fine p i.0 i.1 i.2, pointer_fine q j.0 j.1 j.2)
atom_fine (atom.Compare left rel.Eq right) text h fine = two_sums left right rel.Eq text h fine
atom_fine (atom.Compare left rel.Ne right) text h fine = never_unequal left right text h fine
atom_fine (atom.Compare left rel.Lt right) text h fine = two_sums left right rel.Lt text h fine
atom_fine (atom.Compare left rel.Le right) text h fine = two_sums left right rel.Le text h fine
atom_fine (atom.Compare left rel.Gt right) text h fine = two_sums left right rel.Gt text h fine
atom_fine (atom.Compare left rel.Ge right) text h fine = two_sums left right rel.Ge text h fine

item_fine : (i : Item) (text : Line) → ItemText i text → AllFine text → IsItem i
item_fine (item.Body p) text h fine = let i = inside _ text h fine in pointer_fine p i.0 i.1 i.2
item_fine (item.Star x) text h fine = let a1 = split text h fine in name_fine x a1.1 a1.3 a1.5
item_fine (item.Name x) text h fine = name_fine x text h fine

-- ---- clauses

alternative_fine : (atoms : List Atom) (text : Line) → Atoms atoms text → AllFine text → IsAlternative atoms
alternative_fine [] text h fine = absurd h
alternative_fine (a ∷ atoms) text h fine = (omega arith, separated_fine IsAtom AtomText (Mark sign.Comma) atom_fine (a ∷ atoms) text h fine)

clause_fine : {A : Type 0} (P : A → Type 0) (p : A → Line → Type 0) (begin : List ℕ) (separator : Line → Type 0) → ((a : A) (text : Line) → p a text → AllFine text → P a) → (xs : List A) (text : Line) → Clause begin separator p xs text → AllFine text → All P xs
clause_fine P p begin separator f [] text h fine = none_of P
clause_fine P p begin separator f (a ∷ xs) text h fine =
    let a1 = split text h fine in
    let a2 = split a1.1 a1.3 a1.5 in
    separated_fine P p separator f (a ∷ xs) a2.0 a2.2 a2.4

pub contract_fine : (c : Contract) (text : Line) → ContractText c text → AllFine text → IsContract c
contract_fine c text h fine =
    let a1 = split text h fine in
    let a2 = split a1.1 a1.3 a1.5 in
    let a3 = split a2.1 a2.3 a2.5 in
    record {
      listed = clause_fine IsName Name _ (Mark sign.Comma) name_fine c.listed a1.0 a1.2 a1.4;
      needs = clause_fine IsAtom AtomText _ (Mark sign.Comma) atom_fine c.needs a2.0 a2.2 a2.4;
      changes = clause_fine IsItem ItemText _ (Mark sign.Comma) item_fine c.changes a3.0 a3.2 a3.4;
      gives = clause_fine IsAlternative Atoms _ (Mark sign.Bar) alternative_fine c.gives a3.1 a3.3 a3.5;
    }
