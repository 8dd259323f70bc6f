-- How many levels a contract opens. A level is a pointer or a term of the grammar.
use Rattle.std.specs.Prelude.{ℕ, suc, Bool, true, ◌&&◌, nat_le, Option, Some, None, List}
use Rattle.std.specs.List.{list_all}
use Rattle.cv_core.specs.declared.program.Contract.{Contract}
use Rattle.cv_core.specs.declared.program.PtrTerm.{PtrTerm, Row_of-PtrTerm, end_of-PtrTerm, more_of-PtrTerm}
use Rattle.cv_core.specs.declared.program.PtrTerm.TheVariants as pointer
use Rattle.cv_core.specs.declared.program.Term.{Term, Row_of-Term, end_of-Term, more_of-Term}
use Rattle.cv_core.specs.declared.program.Term.TheVariants as term
use Rattle.cv_core.specs.declared.program.LinPart.{LinPart}
use Rattle.cv_core.specs.declared.program.Atom.{Atom}
use Rattle.cv_core.specs.declared.program.Atom.TheVariants as atom
use Rattle.cv_core.specs.declared.program.Item.{Item}
use Rattle.cv_core.specs.declared.program.Item.TheVariants as item

-- ---- the levels of a pointer and of a term, itself among them

abbrev mutual
  pub pointer_levels : PtrTerm → ℕ
  pointer_levels (pointer.Name x) = 1
  pointer_levels (pointer.Star x) = 1
  pointer_levels pointer.Answer = 1
  pointer_levels (pointer.Pre' s held) = suc (pointer_held_levels held)

  pub pointer_held_levels : {n : _} → Row_of-PtrTerm n → ℕ
  pointer_held_levels end_of-PtrTerm = 0
  pointer_held_levels (more_of-PtrTerm t rest) = pointer_levels t

abbrev mutual
  pub term_levels : Term → ℕ
  term_levels (term.Name x) = 1
  term_levels (term.Star x) = 1
  term_levels term.Answer = 1
  term_levels (term.Pre' s held) = suc (term_held_levels held)
  term_levels (term.Alloc p) = suc (pointer_levels p)
  term_levels (term.Offset p) = suc (pointer_levels p)
  term_levels (term.Strlen p) = suc (pointer_levels p)

  pub term_held_levels : {n : _} → Row_of-Term n → ℕ
  term_held_levels end_of-Term = 0
  term_held_levels (more_of-Term t rest) = term_levels t

-- ---- at most n levels

abbrev pub pointer_within : ℕ → PtrTerm → Bool
pointer_within n p = nat_le (pointer_levels p) n

abbrev pub term_within : ℕ → Term → Bool
term_within n t = nat_le (term_levels t) n

abbrev pub maybe_within : ℕ → Option Term → Bool
maybe_within n None = true
maybe_within n (Some t) = term_within n t

abbrev pub sum_within : ℕ → List LinPart → Bool
sum_within n parts = list_all (λ p. maybe_within n p.term) parts

abbrev pub atom_within : ℕ → Atom → Bool
atom_within n (atom.Null p equal) = pointer_within n p
atom_within n (atom.Nullt p) = pointer_within n p
atom_within n (atom.Clear p) = pointer_within n p
atom_within n (atom.Fresh p) = pointer_within n p
atom_within n (atom.Apart p q) = pointer_within n p && pointer_within n q
atom_within n (atom.SameBase p q) = pointer_within n p && pointer_within n q
atom_within n (atom.Compare left r right) = sum_within n left && sum_within n right

abbrev pub item_within : ℕ → Item → Bool
item_within n (item.Body p) = pointer_within n p
item_within n (item.Star x) = true
item_within n (item.Name x) = true

-- no pointer and no term of the contract has more than n levels
abbrev pub contract_within : ℕ → Contract → Bool
contract_within n c = list_all (atom_within n) c.needs && list_all (item_within n) c.changes && list_all (list_all (atom_within n)) c.gives

-- the greatest number of levels that a text may open
abbrev pub most_levels : ℕ
most_levels = 100
