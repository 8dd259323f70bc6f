-- Contracts within the limit on the parts of an atom.
use Rattle.std.specs.Prelude.{◌≤◌, ◌+◌, List, length, All}
use Rattle.cv_core.specs.declared.program.Atom.{Atom}
use Rattle.cv_core.specs.declared.program.Atom.TheVariants as atom
use Rattle.cv_core.specs.declared.program.Contract.{Contract}

-- the parts of both sides of an atom are together at most 12
abbrev pub HasFewParts : Atom → Type 0
HasFewParts (atom.Compare left r right) = length left + length right ≤ 12
HasFewParts a = Unit {0}

pub record AreFew (c : Contract) : Type 0 where
  pub needs : All HasFewParts c.needs
  pub gives : All (All HasFewParts) c.gives
