-- What an alternative of ensures says of the codes after a call.
use Rattle.std.specs.Prelude.{Bool, List, None, Option, Some, [], false, if◌then◌else◌, is_some, nat_eq, not, true, ℕ, ◌&&◌, ◌||◌, ◌∷◌}
use Rattle.cv_core.specs.declared.program.Atom.{Atom}
use Rattle.cv_core.specs.declared.program.Proc.{Proc}
use Rattle.cv_core.specs.declared.program.PtrTerm.{PtrTerm}
use Rattle.cv_points.specs.Holders.{gives_pointer}
use Rattle.cv_ppts.specs.Choices.{Choice, cell_of, code_before, code_of_name, is_modified}
use Rattle.cv_ppts.specs.Paths.{Answered, Path, Starred, is_before, path_of}
use Rattle.cv_ppts.specs.Setting.{Setting, content_place}
use Rattle.cv_ppts.specs.Status.{Codes, is_false, status_of}
use Rattle.cv_ppts.specs.declared.code.Code.{Code}
use Rattle.cv_ppts.specs.declared.outcomes.Gift.{Gift}
use Rattle.cv_ppts.specs.declared.status.Status.{Status}
use Rattle.cv_core.specs.declared.program.Atom.TheVariants as atom
use Rattle.cv_ppts.specs.declared.code.Code.TheVariants as code
use Rattle.cv_ppts.specs.declared.status.Status.TheVariants as status

-- ---- pointers that the call changes: the result, with the key 0, and the contents of modified cells, by target

abbrev pub is_changed_cell : Setting → Proc → Choice → ℕ → Bool
is_changed_cell s g K t = is_modified s g K t && is_some (content_place s t)

abbrev pub changed_key : Setting → Proc → Choice → Option ℕ → Option ℕ
changed_key s g K None = None
changed_key s g K (Some t) = if is_changed_cell s g K t then Some t else None

-- the key of a pointer that changes
abbrev pub key_of : Setting → Proc → Choice → Path → Option ℕ
key_of s g K Answered = if gives_pointer g.answer then Some 0 else None
key_of s g K x = changed_key s g K (cell_of s g K x)

-- ---- one walk over the atoms gives codes to changed pointers

abbrev pub Given : Type 0
Given = ℕ → Option Code

abbrev pub known_at : Given → Option ℕ → Option Code → Option Code
known_at given (Some y) c = given y
known_at given None c = c

-- the code of a pointer that is known by then; one under `pre` is known from the start
abbrev pub known : Setting → Proc → Choice → Given → Bool → Path → Option Code
known s g K given true x = code_before s g K x
known s g K given false x = known_at given (key_of s g K x) (code_before s g K x)

-- the key of a pointer that changes; one under `pre` doesn't
abbrev pub changed_of : Setting → Proc → Choice → PtrTerm → Option ℕ
changed_of s g K p = if is_before p then None else key_of s g K (path_of p)

abbrev pub known_of : Setting → Proc → Choice → Given → PtrTerm → Option Code
known_of s g K given p = known s g K given (is_before p) (path_of p)

abbrev pub gift_of : ℕ → Option Code → Option Gift
gift_of y None = None
gift_of y (Some c) = Some (record { key = y; code = c })

-- a code goes to a changed pointer that has none yet
abbrev pub gift_to : Given → Option ℕ → Option Code → Option Gift
gift_to given None c = None
gift_to given (Some y) c = if is_some (given y) then None else gift_of y c

abbrev pub first_gift : Option Gift → Option Gift → Option Gift
first_gift (Some a) later = Some a
first_gift None later = later

abbrev pub null_gift : Given → Option ℕ → Bool → Option Gift
null_gift given y true = gift_to given y (Some code.Null)
null_gift given y false = None

-- `Y == null` gives null, `fresh(Y)` the new object, and `base` the code of the other pointer
abbrev pub gift : Setting → Proc → Choice → Given → Atom → Option Gift
gift s g K given (atom.Null p equal) = null_gift given (changed_of s g K p) equal
gift s g K given (atom.Fresh p) = gift_to given (changed_of s g K p) (Some code.New)
gift s g K given (atom.SameBase p q) =
    first_gift (gift_to given (changed_of s g K p) (known_of s g K given q)) (gift_to given (changed_of s g K q) (known_of s g K given p))
gift s g K given a = None

abbrev pub with_gift : Given → Option Gift → Given
with_gift given None = given
with_gift given (Some g) = λ y. if nat_eq g.key y then Some g.code else given y

abbrev pub walked : Setting → Proc → Choice → Given → List Atom → Given
walked s g K given [] = given
walked s g K given (a ∷ more) = walked s g K (with_gift given (gift s g K given a)) more

-- a changed pointer without a code after the walk has the unknown one
abbrev pub settled : Option Code → Code
settled None = code.Unknown
settled (Some c) = c

-- ---- codes after the call

abbrev pub after_at : Given → Option ℕ → Option Code → Option Code
after_at given (Some y) c = Some (settled (given y))
after_at given None c = c

-- the code of a pointer before the call, or after it; None where it is undefined
abbrev pub code_after : Setting → Proc → Choice → Given → Bool → Path → Option Code
code_after s g K given true x = code_before s g K x
code_after s g K given false x = after_at given (key_of s g K x) (code_before s g K x)

-- a number is there where the cell that it is read from is
abbrev pub number_there : Code → Status
number_there code.Unknown = status.Unknown
number_there code.Null = status.False
number_there c = status.Known

abbrev pub number_after : Setting → Proc → Choice → Path → Status
number_after s g K (Starred i) = number_there (code_of_name s g K i)
number_after s g K x = status.Known

-- the codes under which an alternative of ensures is read after the call
abbrev pub codes_after : Setting → Proc → Choice → Given → Codes
codes_after s g K given = record { code = code_after s g K given; number = number_after s g K; dies = λ c. false; is_made = λ c. false }

-- an atom is false by the codes after the call
abbrev pub is_false_atom : Setting → Proc → Choice → Given → Atom → Bool
is_false_atom s g K given a = is_false (status_of (codes_after s g K given) false a)
