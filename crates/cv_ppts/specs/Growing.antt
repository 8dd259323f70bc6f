-- Rows of numbers that grow until their codes are closed.
use Rattle.std.specs.Prelude.{Bool, Contains, FitsSigned, List, MatchBool, Some, [], if◌then◌else◌, int_lt, length, slice_set, ℕ, ℤ, ◌+◌, ◌<◌, ◌∷◌, ◌≡◌, false}
use Rattle.std.specs.Int.{w32}
use Rattle.cv_ppts.specs.Numbers.{IsNumber, Rows, codes_of, number_of, row_at}
use Rattle.cv_ppts.specs.Plain.{IsWithin, Sets}
use Rattle.cv_ppts.specs.Setting.{Setting}
use Rattle.cv_ppts.specs.Targets.{AreClosed, IsAscending}
use Rattle.cv_ppts.specs.declared.code.Code.{Code}

-- an ascending row with one more number
abbrev pub inserted : ℤ → List ℤ → List ℤ
inserted n [] = n ∷ []
inserted n (m ∷ ms) = if int_lt n m then n ∷ m ∷ ms else m ∷ inserted n ms

-- how many numbers the rows have
abbrev pub total : Rows → ℕ
total [] = 0
total (ns ∷ T) = length ns + total T

-- so many ascending rows of numbers of codes that 32 bits hold
pub record IsTable (count : ℕ) (T : Rows) : Type 0 where
  pub long : length T ≡ count
  pub ascending : (h : ℕ) → IsAscending (row_at T h)
  pub numbers : (h : ℕ) (n : ℤ) → Contains (row_at T h) n → IsNumber n
  pub small : (h : ℕ) (n : ℤ) → Contains (row_at T h) n → FitsSigned w32 n

pub record AreEmpty (count : ℕ) (T : Rows) : Type 0 where
  pub long : length T ≡ count
  pub empty : (h : ℕ) → row_at T h ≡ []

-- T is S with the number of one more code in the row at a place
pub record IsAdded (S T : Rows) (to : ℕ) (code : Code) : Type 0 where
  pub number : ℤ
  pub is : number_of code ≡ Some number
  pub within : to < length S
  pub small : FitsSigned w32 number
  pub added : T ≡ slice_set S to (inserted number (row_at S to))

-- S grew to T, within all greater sets that keep Q
pub record Grows (S T : Rows) (more : Bool) (Q : Sets → Type 0) : Type 0 where
  pub table : (count : ℕ) → IsTable count S → IsTable count T
  pub within : (R : Sets) → IsWithin (codes_of S) R → Q R → IsWithin (codes_of T) R
  pub change : MatchBool more (total S < total T) (T ≡ S)

-- and T keeps Q where nothing was added
pub record Settles (S T : Rows) (more : Bool) (Q : Sets → Type 0) : Type 0 where
  pub grown : Grows S T more Q
  pub kept : more ≡ false → Q (codes_of T)

-- S grew until it is closed, to just what that asks for
pub record IsSaturated (s : Setting) (S T : Rows) : Type 0 where
  pub table : (count : ℕ) → IsTable count S → IsTable count T
  pub within : (R : Sets) → IsWithin (codes_of S) R → AreClosed s R → IsWithin (codes_of T) R
  pub closed : AreClosed s (codes_of T)
