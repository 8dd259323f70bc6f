-- What each integer program keeps: its variables and places are in range, and what is assigned is small.
use Rattle.std.specs.Prelude.{List, length, ℕ, ◌+◌, ◌<◌, ◌≤◌, All}
use Rattle.cv_num.specs.Assigned.{IsSmallAssign}
use Rattle.cv_num.specs.declared.rows.Row.{Row}
use Rattle.cv_ip.specs.declared.program.CodeSet.{CodeSet}
use Rattle.cv_ip.specs.declared.program.Group.{Group}
use Rattle.cv_ip.specs.declared.program.IpPlace.{IpPlace}
use Rattle.cv_ip.specs.declared.program.Transition.{Transition}

-- the parts of an integer program
pub record Parts : Type 0 where
  pub vars : ℕ
  pub codes : List CodeSet
  pub facts : List Row
  pub entry : List Row
  pub places : List IpPlace

-- each variable of the row is below n
abbrev pub IsBelow : ℕ → Row → Type 0
IsBelow n r = All (λ p. p.0 < n) r.pairs

-- of a program with so many variables and places
pub record IsTransition (vars places : ℕ) (t : Transition) : Type 0 where
  pub to : t.to < places
  pub guard : All (IsBelow (vars + t.fresh)) t.guard
  pub assigned : All (λ a. a.0 < vars) t.assign
  pub images : All (λ a. IsBelow (vars + t.fresh) a.1) t.assign
  -- coefficients and constants within 2147483648 in size
  pub small : IsSmallAssign t.assign

pub record IsGroup (vars : ℕ) (g : Group) : Type 0 where
  pub guard : All (IsBelow vars) g.guard
  pub alternatives : All (λ goals. All (IsBelow vars) goals) g.alternatives

pub record IsPlace (vars places : ℕ) (p : IpPlace) : Type 0 where
  pub groups : All (IsGroup vars) p.groups
  pub transitions : All (IsTransition vars places) p.transitions

pub record IsFormed (p : Parts) : Type 0 where
  pub some : 1 ≤ length p.places
  pub few : p.vars ≤ 200
  pub codes : All (λ c. c.var < p.vars) p.codes
  pub facts : All (IsBelow p.vars) p.facts
  pub entry : All (IsBelow p.vars) p.entry
  pub places : All (IsPlace p.vars (length p.places)) p.places
