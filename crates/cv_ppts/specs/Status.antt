-- What codes alone say of an atom: that it is false, that it holds as far as codes go, or nothing.
use Rattle.std.specs.Prelude.{Bool, List, None, Option, Some, [], false, nat_eq, not, true, ℕ, ◌||◌, ◌∷◌}
use Rattle.cv_core.specs.declared.program.Atom.{Atom}
use Rattle.cv_core.specs.declared.program.LinPart.{LinPart}
use Rattle.cv_core.specs.declared.program.PtrTerm.{PtrTerm}
use Rattle.cv_core.specs.declared.program.Term.{Term}
use Rattle.cv_core.specs.declared.program.Atom.TheVariants as atom
use Rattle.cv_ppts.specs.Paths.{AllocOf, NumberOf, OffsetOf, Path, Reading, StrlenOf, is_before, is_term_before, path_of, reading_of}
use Rattle.cv_ppts.specs.declared.code.Code.{Code}
use Rattle.cv_ppts.specs.declared.code.Code.TheVariants as code
use Rattle.cv_ppts.specs.declared.status.Status.{Status}
use Rattle.cv_ppts.specs.declared.status.Status.TheVariants as status

-- the codes under which a contract is read
pub record Codes : Type 0 where
  -- that of a pointer, at entry (true) or now; None is a `*w` that is undefined
  pub code : Bool → Path → Option Code
  -- whether a number is defined
  pub number : Path → Status
  -- the code is that of a local object, at a return
  pub dies : Code → Bool
  -- the code is that of an object that was made since entry, at a return
  pub is_made : Code → Bool

infixl 30 ◌&◌
-- both hold: false where one is, and unknown where one is
abbrev pub ◌&◌ : Status → Status → Status
status.False & t = status.False
status.Unknown & status.False = status.False
status.Unknown & t = status.Unknown
status.Known & t = t

abbrev pub known_if : Bool → Status
known_if true = status.Known
known_if false = status.False

abbrev pub code_of : Codes → Bool → PtrTerm → Option Code
code_of c before p = c.code (before || is_before p) (path_of p)

-- an object is needed that doesn't die
abbrev pub needed : Codes → Option Code → Status
needed c None = status.False
needed c (Some code.Unknown) = status.Unknown
needed c (Some code.Null) = status.False
needed c (Some k) = known_if (not (c.dies k))

abbrev pub has_object : Codes → Bool → PtrTerm → Status
has_object c before p = needed c (code_of c before p)

-- `X == null`, or `X != null`
abbrev pub null_status : Bool → Option Code → Status
null_status equal None = status.False
null_status equal (Some code.Unknown) = status.Unknown
null_status equal (Some code.Null) = known_if equal
null_status equal (Some k) = known_if (not equal)

-- `fresh(X)` as a goal (true), or as a hypothesis
abbrev pub fresh_status : Codes → Bool → Option Code → Status
fresh_status c goal None = status.False
fresh_status c false (Some k) = status.Known
fresh_status c true (Some code.Unknown) = status.Unknown
fresh_status c true (Some k) = known_if (c.is_made k)

-- both have the same object
abbrev pub is_one_object : Code → Code → Bool
is_one_object (code.Target m) (code.Target n) = nat_eq m n
is_one_object code.New code.New = true
is_one_object k l = false

abbrev pub apart_status : Option Code → Option Code → Status
apart_status None l = status.False
apart_status (Some k) None = status.False
apart_status (Some code.Unknown) (Some l) = status.Unknown
apart_status (Some k) (Some code.Unknown) = status.Unknown
apart_status (Some k) (Some l) = known_if (not (is_one_object k l))

-- what `base(X) == base(Y)` asks beside an object of each
abbrev pub base_status : Option Code → Option Code → Status
base_status None l = status.False
base_status (Some k) None = status.False
base_status (Some code.Unknown) (Some l) = status.Unknown
base_status (Some k) (Some code.Unknown) = status.Unknown
base_status (Some k) (Some l) = known_if (is_one_object k l)

abbrev pub reading_status : Codes → Bool → Reading → Status
reading_status c before (NumberOf x) = c.number x
reading_status c before (AllocOf p) = has_object c before p
reading_status c before (OffsetOf p) = has_object c before p
reading_status c before (StrlenOf p) = has_object c before p

abbrev pub term_status : Codes → Option Term → Status
term_status c None = status.Known
term_status c (Some t) = reading_status c (is_term_before t) (reading_of t)

-- all terms of a sum are defined
abbrev pub sum_status : Codes → List LinPart → Status
sum_status c [] = status.Known
sum_status c (p ∷ ps) = term_status c p.term & sum_status c ps

-- an atom as a goal (true), or as a hypothesis
abbrev pub status_of : Codes → Bool → Atom → Status
status_of c goal (atom.Null p equal) = null_status equal (code_of c false p)
status_of c goal (atom.Nullt p) = has_object c false p
status_of c goal (atom.Clear p) = has_object c false p
status_of c goal (atom.Fresh p) = fresh_status c goal (code_of c false p)
status_of c goal (atom.Apart p q) = apart_status (code_of c false p) (code_of c false q)
status_of c goal (atom.SameBase p q) =
    has_object c false p & has_object c false q & base_status (code_of c false p) (code_of c false q)
status_of c goal (atom.Compare left r right) = sum_status c left & sum_status c right

abbrev pub is_false : Status → Bool
is_false status.False = true
is_false s = false
