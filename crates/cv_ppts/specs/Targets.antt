-- The codes of a case: closed under the statements of its procedure, and the least such.
use Rattle.std.specs.Prelude.{Bool, Contains, List, None, Option, Some, [], bytes_eq, codes as text, false, if◌then◌else◌, length, nat_eq, not, slice_get, true, ℕ, ℤ, ◌&&◌, ◌<ℤ◌, ◌∷◌, ◌≡◌}
use Rattle.std.specs.List.{list_any}
use Rattle.cv_core.specs.Names.{Name, stmts_of}
use Rattle.cv_core.specs.declared.program.AnyOperand.{AnyOperand}
use Rattle.cv_core.specs.declared.program.Atom.{Atom}
use Rattle.cv_core.specs.declared.program.Form.{Form}
use Rattle.cv_core.specs.declared.program.Item.{Item}
use Rattle.cv_core.specs.declared.program.Proc.{Proc}
use Rattle.cv_core.specs.declared.program.Program.{Program}
use Rattle.cv_core.specs.declared.program.Stmt.{Stmt}
use Rattle.cv_ppts.specs.Choices.{Choice, IsChoice, changes_pointer, is_failing, item_target}
use Rattle.cv_ppts.specs.Numbers.{IsNumber, Rows, codes_of, row_at}
use Rattle.cv_ppts.specs.Outcomes.{Given, is_false_atom, settled, walked}
use Rattle.cv_ppts.specs.Plain.{HasCode, HasEntryCodes, IsWithin, MaybeHolds, Sets, place_of_variable, plain_rule}
use Rattle.cv_ppts.specs.Setting.{HasRoom, Setting, allocates, callee, content_place, is_fresh, new_target, set_count}
use Rattle.cv_ppts.specs.declared.code.Code.{Code}
use Rattle.cv_core.specs.declared.program.Form.TheVariants as form
use Rattle.cv_ppts.specs.declared.code.Code.TheVariants as code

-- ---- calls

-- at a statement with the target t, each pointer but the destination that has t has the unknown code too
abbrev pub IsLost : Sets → ℕ → ℕ → Type 0
IsLost T t h = HasCode T h (code.Target t) → HasCode T h code.Unknown

abbrev pub AreLost : Sets → ℕ → Option ℕ → Type 0
AreLost T t into = (h : ℕ) → (into ≡ Some h → ⊥) → IsLost T t h

abbrev pub MallocHolds : Sets → ℕ → Option ℕ → Type 0
MallocHolds T t None = Unit {0}
MallocHolds T t (Some h) = HasCode T h code.Null × HasCode T h (code.Target t)

-- what is assigned for a code after the call: the statement's target for its new object, and the unknown code for the older one
abbrev pub assigned : ℕ → Bool → Code → Code
assigned t fresh code.New = code.Target t
assigned t fresh (code.Target u) = if fresh && nat_eq u t then code.Unknown else code.Target u
assigned t fresh c = c

abbrev pub is_new : Code → Bool
is_new code.New = true
is_new c = false

-- a changed pointer has the code; where there is a new object that it doesn't have, it loses the older one
pub record IsAsked (T : Sets) (t : ℕ) (fresh : Bool) (c : Code) (h : ℕ) : Type 0 where
  pub code : HasCode T h (assigned t fresh c)
  pub lost : (fresh && not (is_new c)) ≡ true → IsLost T t h

abbrev pub MaybeAsked : Sets → ℕ → Bool → Code → Option ℕ → Type 0
MaybeAsked T t fresh c None = Unit {0}
MaybeAsked T t fresh c (Some h) = IsAsked T t fresh c h

abbrev pub CellAsked : Setting → Sets → ℕ → Bool → Given → Option ℕ → Type 0
CellAsked s T t fresh given None = Unit {0}
CellAsked s T t fresh given (Some u) = MaybeAsked T t fresh (settled (given u)) (content_place s u)

-- the codes after the walk are those of the result's destination and of the cells that are modified
pub record GivenHolds (s : Setting) (T : Sets) (t : ℕ) (into : Option ℕ) (g : Proc) (K : Choice) (fresh : Bool) (given : Given) : Type 0 where
  pub result : MaybeAsked T t fresh (settled (given 0)) into
  pub cells : (x : Item) → Contains g.contract.changes x → CellAsked s T t fresh given (item_target s g K x)

abbrev pub none_given : Given
none_given = λ y. None

-- an alternative that no atom makes false
abbrev pub AfterHolds : Setting → Sets → ℕ → Option ℕ → Proc → Choice → List Atom → Given → Type 0
AfterHolds s T t into g K atoms given =
    list_any (is_false_atom s g K given) atoms ≡ false → GivenHolds s T t into g K (list_any is_fresh atoms) given

abbrev pub AlternativeHolds : Setting → Sets → ℕ → Option ℕ → Proc → Choice → List Atom → Type 0
AlternativeHolds s T t into g K atoms = AfterHolds s T t into g K atoms (walked s g K none_given atoms)

-- without ensures there is one alternative without atoms
abbrev pub alternatives : List (List Atom) → List (List Atom)
alternatives [] = [] ∷ []
alternatives (a ∷ more) = a ∷ more

-- the alternatives of a choice that doesn't fail
abbrev pub ChoiceHolds : Setting → Sets → ℕ → Option ℕ → Proc → Choice → Type 0
ChoiceHolds s T t into g K =
    is_failing s g K ≡ false → (atoms : List Atom) → Contains (alternatives g.contract.gives) atoms → AlternativeHolds s T t into g K atoms

-- a call that changes no pointer asks for nothing
abbrev pub CalleeHolds : Setting → Sets → ℕ → Option ℕ → List AnyOperand → Option Proc → Type 0
CalleeHolds s T t into args None = Unit {0}
CalleeHolds s T t into args (Some g) = changes_pointer s g into ≡ true → (K : Choice) → IsChoice s T g args K → ChoiceHolds s T t into g K

abbrev pub Whether : Bool → Type 0 → Type 0 → Type 0
Whether true A B = A
Whether false A B = B

abbrev pub CallHolds : Setting → Sets → ℕ → Option ℕ → Name → List AnyOperand → Type 0
CallHolds s T t into g args = Whether (bytes_eq g (text "malloc")) (MallocHolds T t into) (CalleeHolds s T t into args (callee s.program g))

-- ---- statements

-- a call, whose statement allocates or doesn't
pub record CallStatementHolds (s : Setting) (T : Sets) (t : ℕ) (into : Option Name) (g : Name) (args : List AnyOperand) (new : Bool) : Type 0 where
  pub given : CallHolds s T t (place_of_variable s into) g args
  pub lost : new ≡ true → AreLost T t (place_of_variable s into)

abbrev pub CallFormHolds : Setting → Sets → ℕ → Form → Bool → Type 0
CallFormHolds s T t (form.Call into g args) new = CallStatementHolds s T t into g args new
CallFormHolds s T t m new = Unit {0}

-- what a statement with the target t asks for
pub record FormHolds (s : Setting) (T : Sets) (t : ℕ) (m : Form) : Type 0 where
  pub rule : MaybeHolds s T (plain_rule s m)
  pub call : CallFormHolds s T t m (allocates s.program m)

abbrev pub HoldsAt : Setting → Sets → ℕ → Type 0
HoldsAt s T k = (x : Stmt) → slice_get (stmts_of s.proc.body) k ≡ Some x → FormHolds s T (new_target s k) x.form

-- the codes at entry, and those that the statements ask for
pub record AreClosed (s : Setting) (T : Sets) : Type 0 where
  pub entry : HasEntryCodes s T
  pub statements : (k : ℕ) → HoldsAt s T k

abbrev pub IsAscendingFrom : ℤ → List ℤ → Type 0
IsAscendingFrom c [] = Unit {0}
IsAscendingFrom c (d ∷ ds) = (c <ℤ d) × IsAscendingFrom d ds

abbrev pub IsAscending : List ℤ → Type 0
IsAscending [] = Unit {0}
IsAscending (c ∷ cs) = IsAscendingFrom c cs

-- one ascending row of numbers for each pointer, closed, and within all that are closed
pub record AreLeast (s : Setting) (T : Rows) : Type 0 where
  pub counted : length T ≡ set_count s
  pub ascending : (h : ℕ) → IsAscending (row_at T h)
  pub numbers : (h : ℕ) (n : ℤ) → Contains (row_at T h) n → IsNumber n
  pub closed : AreClosed s (codes_of T)
  pub least : (R : Sets) → length R ≡ set_count s → AreClosed s R → IsWithin (codes_of T) R

-- ---- of a procedure by number; one that isn't there has no sets

abbrev pub ClosedIn : Program → Option Proc → List ℕ → Sets → Type 0
ClosedIn P None codes T = Unit {0}
ClosedIn P (Some f) codes T = AreClosed (record { program = P; proc = f; codes = codes }) T

unfoldable pub AreClosedFor : Program → ℕ → List ℕ → Sets → Type 0
AreClosedFor P i codes T = ClosedIn P (slice_get P.procs i) codes T

abbrev pub count_in : Program → Option Proc → List ℕ → ℕ
count_in P None codes = 0
count_in P (Some f) codes = set_count (record { program = P; proc = f; codes = codes })

abbrev pub set_count_for : Program → ℕ → List ℕ → ℕ
set_count_for P i codes = count_in P (slice_get P.procs i) codes

pub record AreLeastFor (P : Program) (i : ℕ) (codes : List ℕ) (T : Rows) : Type 0 where
  pub counted : length T ≡ set_count_for P i codes
  pub ascending : (h : ℕ) → IsAscending (row_at T h)
  pub numbers : (h : ℕ) (n : ℤ) → Contains (row_at T h) n → IsNumber n
  pub closed : AreClosedFor P i codes (codes_of T)
  pub least : (R : Sets) → length R ≡ set_count_for P i codes → AreClosedFor P i codes R → IsWithin (codes_of T) R

-- the targets of a case are few enough for their numbers
abbrev pub RoomIn : Program → Option Proc → List ℕ → Type 0
RoomIn P None codes = Unit {0}
RoomIn P (Some f) codes = HasRoom (record { program = P; proc = f; codes = codes })

unfoldable pub HasRoomFor : Program → ℕ → List ℕ → Type 0
HasRoomFor P i codes = RoomIn P (slice_get P.procs i) codes
