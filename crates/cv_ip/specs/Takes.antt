-- What transitions and groups of an integer program mean at a valuation, and its runs.
use Rattle.std.specs.Prelude.{All, Any, List, [], if◌then◌else◌, nat_lt, negsuc, pos, slice_index_or, ℕ, ℤ, ◌-◌, ◌<◌, ◌∷◌, ◌≡◌, ◌≤ℤ◌}
use Rattle.cv_num.specs.Algebra.{image}
use Rattle.cv_num.specs.Rows.{row_value}
use Rattle.cv_num.specs.declared.rows.Row.{Row}
use Rattle.cv_ip.specs.Formed.{Parts}
use Rattle.cv_ip.specs.declared.program.Group.{Group}
use Rattle.cv_ip.specs.declared.program.IpPlace.{IpPlace}
use Rattle.cv_ip.specs.declared.program.Transition.{Transition}

-- the value of each variable
abbrev pub Valuation : Type 0
Valuation = ℕ → ℤ

-- a row as a constraint: it is worth at least 0
abbrev pub IsMet : Valuation → Row → Type 0
IsMet p r = pos 0 ≤ℤ row_value p r

abbrev pub AreMet : Valuation → List Row → Type 0
AreMet p rows = All (IsMet p) rows

-- values as they are listed, from variable 0 on
abbrev pub entries : List ℤ → Valuation
entries values v = slice_index_or values v (pos 0)

-- the variables below `vars`, and after them the fresh ones
abbrev pub with_fresh : ℕ → Valuation → Valuation → Valuation
with_fresh vars p fresh v = if nat_lt v vars then p v else fresh (v - vars)

-- with these values of the fresh variables: the guard holds, and each variable becomes what it is assigned
pub record TakesWith (vars : ℕ) (t : Transition) (p fresh q : Valuation) : Type 0 where
  pub guard : AreMet (with_fresh vars p fresh) t.guard
  pub becomes : (v : ℕ) → v < vars → q v ≡ row_value (with_fresh vars p fresh) (image t.assign v)

-- the transition takes p to q, with some values of the fresh variables
pub record Takes (vars : ℕ) (t : Transition) (p q : Valuation) : Type 0 where
  pub fresh : Valuation
  pub takes : TakesWith vars t p fresh q

-- the guard holds, and each alternative has a goal below 0
pub record GroupFails (g : Group) (p : Valuation) : Type 0 where
  pub guard : AreMet p g.guard
  pub fails : All (λ goals. Any (λ r. row_value p r ≤ℤ negsuc 0) goals) g.alternatives

-- ---- runs

-- a statement and the values there
pub record Spot : Type 0 where
  pub statement : ℕ
  pub values : Valuation

abbrev no_place : IpPlace
no_place = record { groups = []; transitions = [] }

abbrev pub place_at : Parts → ℕ → IpPlace
place_at P k = slice_index_or P.places k no_place

-- the entry rows and the facts, at statement 0
pub record IsStart (P : Parts) (s : Spot) : Type 0 where
  pub first : s.statement ≡ 0
  pub entry : AreMet s.values P.entry
  pub facts : AreMet s.values P.facts

-- a transition leads from one to the next, at which the facts hold
pub record Steps (P : Parts) (s u : Spot) : Type 0 where
  pub taken : Any (λ t. (t.to ≡ u.statement) × Takes P.vars t s.values u.values) (place_at P s.statement).transitions
  pub facts : AreMet u.values P.facts

abbrev pub GoesOn : Parts → Spot → List Spot → Type 0
GoesOn P s [] = Unit {0}
GoesOn P s (u ∷ more) = Steps P s u × GoesOn P u more

-- a run begins at a start, and each element leads to the next
abbrev pub IsRun : Parts → List Spot → Type 0
IsRun P [] = Unit {0}
IsRun P (s ∷ more) = IsStart P s × GoesOn P s more
