-- A family of site sets is closed where the rules of each statement hold: flow-insensitive, by inclusion, after Andersen.
use Rattle.std.specs.Prelude.{Bool, Contains, IsTrue, List, None, Option, Some, [], bytes_eq, codes, false, if◌then◌else◌, length, nat_lt, slice_get, suc, true, zero, ℕ, ◌<◌, ◌≡◌, ◌⊎◌}
use Rattle.std.specs.List.{slice_index_or}
use Rattle.cv_core.specs.Names.{Name, malloc_site, place_of, stmts_of}
use Rattle.cv_core.specs.declared.program.AnyOperand.{AnyOperand}
use Rattle.cv_core.specs.declared.program.Form.{Form}
use Rattle.cv_core.specs.declared.program.Formal.{Formal}
use Rattle.cv_core.specs.declared.program.Proc.{Proc}
use Rattle.cv_core.specs.declared.program.ProcBody.{ProcBody}
use Rattle.cv_core.specs.declared.program.Program.{Program}
use Rattle.cv_core.specs.declared.program.Stmt.{Stmt}
use Rattle.cv_core.specs.declared.program.VarKind.{VarKind}
use Rattle.cv_points.specs.Holders.{cell_place, first_holder, result_place, site_of, variable_place}
use Rattle.cv_points.specs.declared.place.Place.{Place}
use Rattle.cv_points.specs.declared.rules.Rule.{Rule}
use Rattle.cv_points.specs.declared.rules.Rule.TheVariants as rule
use Rattle.cv_core.specs.declared.program.AnyOperand.TheVariants as any
use Rattle.cv_core.specs.declared.program.Form.TheVariants as form
use Rattle.cv_core.specs.declared.program.VarKind.TheVariants as kind
use Rattle.cv_core.specs.declared.program.Operand.TheVariants as operand

-- a set of sites for each holder
abbrev pub Family : Type 0
Family = List (List ℕ)

-- the set of the holder at a place, empty where there is none
abbrev pub set_at : Family → ℕ → List ℕ
set_at S k = slice_index_or S k []

abbrev pub IsSubset : List ℕ → List ℕ → Type 0
IsSubset xs ys = (s : ℕ) → Contains xs s → Contains ys s

-- ---- rules, over the places of holders

abbrev pub Holds : Program → Family → Rule → Type 0
Holds P S (rule.Has to s) = Contains (set_at S to) s
Holds P S (rule.Includes from to) = IsSubset (set_at S from) (set_at S to)
Holds P S (rule.Reads w to) = (s cell : ℕ) → Contains (set_at S w) s → cell_place P s ≡ Some cell → IsSubset (set_at S cell) (set_at S to)
Holds P S (rule.Writes from w) = (s cell : ℕ) → Contains (set_at S w) s → cell_place P s ≡ Some cell → IsSubset (set_at S from) (set_at S cell)

abbrev pub MaybeHolds : Program → Family → Option Rule → Type 0
MaybeHolds P S None = Unit {0}
MaybeHolds P S (Some r) = Holds P S r

-- a rule between two holders, where both are there
abbrev pub both : (ℕ → ℕ → Rule) → Option ℕ → Option ℕ → Option Rule
both make None later = None
both make (Some k) None = None
both make (Some k) (Some n) = Some (make k n)

abbrev pub variable_in : AnyOperand → Option Name
variable_in (any.Operand (operand.Var x)) = Some x
variable_in e = None

-- the place of the pointer variable that an operand is, in the procedure f with its first holder at `first`
abbrev pub place_in : ℕ → Proc → Option Name → Option ℕ
place_in first f None = None
place_in first f (Some x) = variable_place first f x

abbrev pub operand_place : ℕ → Proc → AnyOperand → Option ℕ
operand_place first f e = place_in first f (variable_in e)

-- ---- calls, of g with its first holder at `start` in f

abbrev pub argument_rule : ℕ → Proc → ℕ → Proc → Option AnyOperand → Option Formal → Option Rule
argument_rule first f start g None x = None
argument_rule first f start g (Some a) None = None
argument_rule first f start g (Some a) (Some x) = both (λ from to. rule.Includes from to) (operand_place first f a) (variable_place start g x.name)

-- the rules of a call by number: the result, then the arguments
abbrev pub numbered_rule : ℕ → Proc → Option Name → List AnyOperand → ℕ → Proc → ℕ → Option Rule
numbered_rule first f into args start g zero = both (λ from to. rule.Includes from to) (result_place start g) (place_in first f into)
numbered_rule first f into args start g (suc n) = argument_rule first f start g (slice_get args n) (slice_get g.formals n)

-- an extern procedure has no holders
abbrev pub body_rule : Option ProcBody → Option Rule → Option Rule
body_rule None r = None
body_rule (Some b) r = r

abbrev pub called_rule : Program → ℕ → Proc → Option Name → List AnyOperand → ℕ → Option Proc → ℕ → Option Rule
called_rule P first f into args j None n = None
called_rule P first f into args j (Some g) n = body_rule g.body (numbered_rule first f into args (first_holder P j) g n)

abbrev pub procedure_rule : Program → ℕ → Proc → Option Name → List AnyOperand → Option ℕ → ℕ → Option Rule
procedure_rule P first f into args None n = None
procedure_rule P first f into args (Some j) n = called_rule P first f into args j (slice_get P.procs j) n

abbrev pub call_rule : Program → ℕ → Proc → ℕ → Option Name → Name → List AnyOperand → ℕ → Option Rule
call_rule P i f k into g args n =
    if bytes_eq g (codes "malloc") then both (λ to s. rule.Has to s) (place_in (first_holder P i) f into) (Some (malloc_site P i k))
    else procedure_rule P (first_holder P i) f into args (place_of (λ h. h.name) g P.procs) n

-- ---- statements

-- the rule of a statement of the procedure i, which is f, other than a call
abbrev pub plain_rule : Program → ℕ → Proc → Form → Option Rule
plain_rule P i f (form.CopyPtr p q) = both (λ from to. rule.Includes from to) (place_in (first_holder P i) f q) (variable_place (first_holder P i) f p)
plain_rule P i f (form.Shift p q e) = both (λ from to. rule.Includes from to) (variable_place (first_holder P i) f q) (variable_place (first_holder P i) f p)
plain_rule P i f (form.Address p a) = both (λ to s. rule.Has to s) (variable_place (first_holder P i) f p) (site_of P i f a)
plain_rule P i f (form.Get x w) = both (λ w to. rule.Reads w to) (variable_place (first_holder P i) f w) (variable_place (first_holder P i) f x)
plain_rule P i f (form.Put w e) = both (λ from w. rule.Writes from w) (operand_place (first_holder P i) f e) (variable_place (first_holder P i) f w)
plain_rule P i f (form.Return (Some e)) = both (λ from to. rule.Includes from to) (operand_place (first_holder P i) f e) (result_place (first_holder P i) f)
plain_rule P i f form = None

-- the rules of the statement k of the procedure i, which is f, by number; only a call has several
abbrev pub form_rule : Program → ℕ → Proc → ℕ → Form → ℕ → Option Rule
form_rule P i f k (form.Call into g args) n = call_rule P i f k into g args n
form_rule P i f k form n = plain_rule P i f form

-- how many arguments a call has
abbrev pub argument_count : Form → ℕ
argument_count (form.Call into g args) = length args
argument_count form = 0

-- ---- the start: main's `ptr` formals and the pointer globals have the site 0

abbrev pub is_text_pointer : VarKind → Bool
is_text_pointer kind.Ptr = true
is_text_pointer k = false

abbrev pub formal_rule : ℕ → Proc → Option Formal → Option Rule
formal_rule first f None = None
formal_rule first f (Some x) = if is_text_pointer x.kind then both (λ to s. rule.Has to s) (variable_place first f x.name) (Some 0) else None

abbrev pub global_rule : Program → ℕ → Option Rule
global_rule P n = if nat_lt n (length P.globals) then both (λ to s. rule.Has to s) (cell_place P (suc n)) (Some 0) else None

-- ---- closed

pub record Starts (P : Program) (S : Family) (i : ℕ) (f : Proc) : Type 0 where
  pub formals : (n : ℕ) → MaybeHolds P S (formal_rule (first_holder P i) f (slice_get f.formals n))
  pub globals : (n : ℕ) → MaybeHolds P S (global_rule P n)

abbrev pub is_start : Proc → ℕ → Bool
is_start f zero = bytes_eq f.name (codes "main")
is_start f (suc k) = false

-- the rules of a statement hold; those of the start belong to the first statement of main
pub record StatementHolds (P : Program) (S : Family) (i : ℕ) (f : Proc) (k : ℕ) (form : Form) : Type 0 where
  pub rules : (n : ℕ) → MaybeHolds P S (form_rule P i f k form n)
  pub start : IsTrue (is_start f k) → Starts P S i f

-- the rules of the statement k of the procedure i, which is f, hold, where it has such a statement
abbrev pub HoldsIn : Program → Family → ℕ → Proc → ℕ → Type 0
HoldsIn P S i f k = (s : Stmt) → slice_get (stmts_of f.body) k ≡ Some s → StatementHolds P S i f k s.form

abbrev pub HoldsAt : Program → Family → ℕ → ℕ → Type 0
HoldsAt P S i k = (f : Proc) → slice_get P.procs i ≡ Some f → HoldsIn P S i f k

-- the rules of each statement hold
abbrev pub IsClosed : Program → Family → Type 0
IsClosed P S = (i k : ℕ) → HoldsAt P S i k

-- the rules of the statement k of i don't hold, and those of each earlier statement do
pub record IsFirstOpen (P : Program) (S : Family) (i k : ℕ) : Type 0 where
  pub fails : HoldsAt P S i k → ⊥
  pub earlier : (j n : ℕ) → (j < i) ⊎ ((j ≡ i) × (n < k)) → HoldsAt P S j n

-- a number as a place can have it: none is greater than 2^32 - 1
abbrev pub capped : ℕ → ℕ
capped n = if nat_lt n 4294967295 then n else 4294967295

-- each set is within the set of the same holder
abbrev pub IsWithin : Family → Family → Type 0
IsWithin S R = (h : ℕ) → IsSubset (set_at S h) (set_at R h)

-- where the answer of `closed` stands
abbrev pub IsFirstOpenAt : Program → Family → Place → Type 0
IsFirstOpenAt P S at = (i k : ℕ) × (at.proc ≡ capped i) × (at.statement ≡ capped k) × IsFirstOpen P S i k
