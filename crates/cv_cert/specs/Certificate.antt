-- What a certificate is: the orders and the ranges of its numbers.
use Rattle.std.specs.Prelude.{ℕ, ◌<◌, ◌≤◌, ◌^◌, ℤ, Bool, true, false, ◌&&◌, ◌||◌, ◌==◌, IsTrue, nat_lt, int_lt, List, [], ◌∷◌, length, FitsSigned, Option, Some, None}
use Rattle.std.specs.Int.{w64}
use Rattle.std.specs.List.{AllByRecursion}
use Rattle.std.specs.Ordering.{int_eq}
use Rattle.cv_core.specs.Grammar.{IsName}
use Rattle.cv_num.specs.Pairs.{IsCanonical}
use Rattle.cv_num.specs.declared.rows.Row.{Row}
use Rattle.cv_farkas.specs.declared.steps.Step.{Step}
use Rattle.cv_cert.specs.declared.certificate.Block.{Block}
use Rattle.cv_cert.specs.declared.certificate.CertCase.{CertCase}

-- a certificate without where it lies in memory
pub record Certificate : Type 0 where
  pub sets : List (List ℕ)
  pub blocks : List Block

-- the numbers that the text has outside of rows
abbrev pub IsNumber : ℕ → Type 0
IsNumber n = n < 2 ^ 32

-- strictly ascending
abbrev pub Ascends : List ℕ → Type 0
Ascends [] = Unit {0}
Ascends (x ∷ xs) = AllByRecursion (λ y. x < y) xs × Ascends xs

abbrev pub IsSet : List ℕ → Type 0
IsSet s = AllByRecursion IsNumber s × Ascends s

-- ---- rows

-- a lesser variable, or the same variable and a lesser coefficient
abbrev pub pair_before : ℕ × ℤ → ℕ × ℤ → Bool
pair_before x y = nat_lt x.0 y.0 || ((x.0 == y.0) && int_lt x.1 y.1)

abbrev pub same_pair : ℕ × ℤ → ℕ × ℤ → Bool
same_pair x y = (x.0 == y.0) && int_eq x.1 y.1

-- the order of the rows of a statement: pair by pair, and a prefix first
abbrev pub is_before : List (ℕ × ℤ) → List (ℕ × ℤ) → Bool
is_before [] [] = false
is_before [] (y ∷ ys) = true
is_before (x ∷ xs) [] = false
is_before (x ∷ xs) (y ∷ ys) = pair_before x y || (same_pair x y && is_before xs ys)

-- the variables are numbers of the text, the coefficients have 64 bits
abbrev pub IsPair : ℕ × ℤ → Type 0
IsPair p = IsNumber p.0 × FitsSigned w64 p.1

pub record IsRow (r : Row) : Type 0 where
  pub constant : FitsSigned w64 r.constant
  pub canonical : IsCanonical r.pairs
  pub pairs : AllByRecursion IsPair r.pairs

-- where there is a row before, its pairs are before those of r
abbrev pub IsAfter : Option Row → Row → Type 0
IsAfter None r = Unit {0}
IsAfter (Some before) r = IsTrue (is_before before.pairs r.pairs)

-- each row is after the one before it, and the first after `before`
abbrev pub AreRows : Option Row → List Row → Type 0
AreRows before [] = Unit {0}
AreRows before (r ∷ rs) = IsRow r × IsAfter before r × AreRows (Some r) rs

-- the rows of one statement
abbrev pub IsStatement : List Row → Type 0
IsStatement rows = IsNumber (length rows) × AreRows None rows

-- ---- cases and blocks

abbrev pub IsStep : Step → Type 0
IsStep s = IsNumber s.d × AllByRecursion (λ p. IsNumber p.0 × IsNumber p.1) s.parts

pub record IsCase (c : CertCase) : Type 0 where
  -- statements are numbered from 0, and each of their numbers is one of the text
  pub statements : length c.rows ≤ 2 ^ 32
  pub rows : AllByRecursion IsStatement c.rows
  pub picks_listed : IsNumber (length c.picks)
  pub picks : AllByRecursion IsNumber c.picks
  pub steps_listed : IsNumber (length c.steps)
  pub steps : AllByRecursion IsStep c.steps

pub record IsBlock (b : Block) : Type 0 where
  pub name : IsName b.name
  pub cases_listed : IsNumber (length b.cases)
  pub cases : AllByRecursion IsCase b.cases

pub record IsCertificate (c : Certificate) : Type 0 where
  pub sets_listed : IsNumber (length c.sets)
  pub sets : AllByRecursion IsSet c.sets
  pub blocks : AllByRecursion IsBlock c.blocks
