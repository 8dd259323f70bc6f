-- The grammar of contracts. Its own words are names too: such a word is a name wherever the word can't stand.
use Rattle.std.specs.Prelude.{ℕ, Bool, true, false, List, [], ◌∷◌, codes, Option, Some, None}
use Rattle.cv_core.specs.declared.program.Contract.{Contract}
use Rattle.cv_core.specs.declared.program.PtrTerm.{PtrTerm, Row_of-PtrTerm, end_of-PtrTerm, more_of-PtrTerm}
use Rattle.cv_core.specs.declared.program.PtrTerm.TheVariants as pointer
use Rattle.cv_core.specs.declared.program.Term.{Term, Row_of-Term, end_of-Term, more_of-Term}
use Rattle.cv_core.specs.declared.program.Term.TheVariants as term
use Rattle.cv_core.specs.declared.program.LinPart.{LinPart}
use Rattle.cv_core.specs.declared.program.Atom.{Atom}
use Rattle.cv_core.specs.declared.program.Atom.TheVariants as atom
use Rattle.cv_core.specs.declared.program.Item.{Item}
use Rattle.cv_core.specs.declared.program.Item.TheVariants as item
use Rattle.cv_core.specs.declared.program.Rel.{Rel}
use Rattle.cv_core.specs.declared.program.Rel.TheVariants as rel
use Rattle.cv_text.specs.declared.token.Key.TheVariants as key
use Rattle.cv_text.specs.declared.token.Sign.TheVariants as sign
use Rattle.cv_text.specs.Tokens.{Line}
use Rattle.cv_reading.specs.Phrase.{nothing, ◌⋅◌, Following}
use Rattle.cv_text.specs.Grammar.{Name, Word, Mark, Count, Equality, Relation, end}

-- a word of a contract, with what stands in brackets behind it
abbrev pub Applied : List ℕ → (Line → Type 0) → Line → Type 0
Applied f inside = Name f ⋅ Mark sign.Open ⋅ inside ⋅ Mark sign.Close

-- ---- pointers and terms

abbrev mutual
  pub Pointer : PtrTerm → Line → Type 0
  Pointer (pointer.Name x) = Name x
  Pointer (pointer.Star x) = Mark sign.Star ⋅ Name x
  Pointer pointer.Answer = Word key.Result
  Pointer (pointer.Pre' s held) = Applied (codes "pre") (PointerHeld held)

  pub PointerHeld : {n : _} → Row_of-PtrTerm n → Line → Type 0
  PointerHeld end_of-PtrTerm = λ _. ⊥
  PointerHeld (more_of-PtrTerm t rest) = Pointer t

abbrev mutual
  pub TermText : Term → Line → Type 0
  TermText (term.Name x) = Name x
  TermText (term.Star x) = Mark sign.Star ⋅ Name x
  TermText term.Answer = Word key.Result
  TermText (term.Pre' s held) = Applied (codes "pre") (TermHeld held)
  TermText (term.Alloc p) = Applied (codes "alloc") (Pointer p)
  TermText (term.Offset p) = Applied (codes "offset") (Pointer p)
  TermText (term.Strlen p) = Applied (codes "strlen") (Pointer p)

  pub TermHeld : {n : _} → Row_of-Term n → Line → Type 0
  TermHeld end_of-Term = λ _. ⊥
  TermHeld (more_of-Term t rest) = TermText t

-- ---- sums

-- digits, a term, or digits times a term
abbrev pub Factor : Option ℕ → Option Term → Line → Type 0
Factor None None = λ _. ⊥
Factor None (Some t) = TermText t
Factor (Some k) None = Count k
Factor (Some k) (Some t) = Count k ⋅ Mark sign.Star ⋅ TermText t

-- the sign of the first part, and of a part behind it
abbrev pub FirstSign : Bool → Line → Type 0
FirstSign true = Mark sign.Minus
FirstSign false = nothing

abbrev pub LaterSign : Bool → Line → Type 0
LaterSign true = Mark sign.Minus
LaterSign false = Mark sign.Plus

abbrev pub LaterParts : List LinPart → Line → Type 0
LaterParts [] = nothing
LaterParts (p ∷ rest) = LaterSign p.negative ⋅ Factor p.number p.term ⋅ LaterParts rest

abbrev pub Linear : List LinPart → Line → Type 0
Linear [] = λ _. ⊥
Linear (p ∷ rest) = FirstSign p.negative ⋅ Factor p.number p.term ⋅ LaterParts rest

-- ---- atoms

-- the relations of two sums, which != is not among
abbrev pub SumRelation : Rel → Line → Type 0
SumRelation rel.Ne = λ _. ⊥
SumRelation r = Relation r

abbrev pub AtomText : Atom → Line → Type 0
AtomText (atom.Null p equal) = Pointer p ⋅ Equality equal ⋅ Word key.Null
AtomText (atom.Nullt p) = Applied (codes "nullt") (Pointer p)
AtomText (atom.Clear p) = Applied (codes "clear") (Pointer p)
AtomText (atom.Fresh p) = Applied (codes "fresh") (Pointer p)
AtomText (atom.Apart p q) = Applied (codes "apart") (Pointer p ⋅ Mark sign.Comma ⋅ Pointer q)
AtomText (atom.SameBase p q) = Applied (codes "base") (Pointer p) ⋅ Mark sign.Equal ⋅ Applied (codes "base") (Pointer q)
AtomText (atom.Compare left r right) = Linear left ⋅ SumRelation r ⋅ Linear right

abbrev pub ItemText : Item → Line → Type 0
ItemText (item.Body p) = Applied (codes "body") (Pointer p)
ItemText (item.Star x) = Mark sign.Star ⋅ Name x
ItemText (item.Name x) = Name x

-- ---- clauses

-- one or more items with a separator between each two
abbrev pub Some_of : {A : Type 0} → (Line → Type 0) → (A → Line → Type 0) → List A → Line → Type 0
Some_of separator p [] = λ _. ⊥
Some_of separator p (a ∷ rest) = p a ⋅ Following separator p rest

-- An absent clause stands for the empty list.
abbrev pub Clause : {A : Type 0} → List ℕ → (Line → Type 0) → (A → Line → Type 0) → List A → Line → Type 0
Clause begin separator p [] = nothing
Clause begin separator p (a ∷ rest) = Name begin ⋅ Some_of separator p (a ∷ rest) ⋅ end

abbrev pub Atoms : List Atom → Line → Type 0
Atoms = Some_of (Mark sign.Comma) AtomText

abbrev pub ContractText : Contract → Line → Type 0
ContractText c = Clause (codes "uses") (Mark sign.Comma) Name c.listed
    ⋅ Clause (codes "requires") (Mark sign.Comma) AtomText c.needs
    ⋅ Clause (codes "modifies") (Mark sign.Comma) ItemText c.changes
    ⋅ Clause (codes "ensures") (Mark sign.Bar) Atoms c.gives
