-- Counts of faults: how often a device has failed, as far as it can count.
use Rattle.std.specs.Prelude.{◌≡◌, ℕ, ◌<◌, ◌≤◌, ◌⊎◌, List, min}
use Rattle.std.proofs.Common.{lit≤}
use Rattle.std.proofs.Math.Nat.{min-le_right}

-- the last value of a count, at which it stands still
abbrev pub last_count : ℕ
last_count = 18446744073709551615

-- a number as a count shows it
abbrev pub capped : ℕ → ℕ
capped n = min n last_count

-- the count rose, or stands at its last value
abbrev pub Rose : ℕ → ℕ → Type 0
Rose before after = (before < after) ⊎ (after ≡ last_count)

-- no name's count fell
abbrev pub NoneFell : (List ℕ → ℕ) → (List ℕ → ℕ) → Type 0
NoneFell before after = (name : List ℕ) → before name ≤ after name

-- every name's count is as it was
abbrev pub NoneRose : (List ℕ → ℕ) → (List ℕ → ℕ) → Type 0
NoneRose before after = (name : List ℕ) → after name ≡ before name

pub none-counted : 0 ≤ last_count
none-counted = lit≤ tt

pub capped-counted : (n : ℕ) → capped n ≤ last_count
capped-counted n = min-le_right n last_count
