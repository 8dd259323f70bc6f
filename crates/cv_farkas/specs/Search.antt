-- An index of rows in their order, and two rows of it with a given sum.
use Rattle.std.specs.Prelude.{false, length, List, slice_index_or, ℕ, ℤ, ◌+ℤ◌, ◌*ℤ◌, ◌<ℤ◌, ◌<◌, ◌≡◌, ◌≢◌, ◌≤ℤ◌, ◌≤◌, ◌⊎◌, pos}
use Rattle.std.specs.declared.cmp.Ordering.{Ordering}
use Rattle.std.specs.declared.cmp.Ordering.TheVariants.{Less, Equal, Greater}
use Rattle.cv_num.specs.declared.rows.Row.{Row}
use Rattle.cv_num.specs.Pairs.{coefficient_of}
use Rattle.cv_num.specs.Algebra.{zero_row}
use Rattle.cv_farkas.specs.Order.{IsCompared, row_lt}
use Rattle.cv_farkas.specs.declared.search.Entry.{Entry}

-- each entry is the row of its place, and has that place as its number
abbrev pub IsNumbered : List Row → List Entry → Type 0
IsNumbered rows es =
    (length es ≡ length rows) × ((k : ℕ) (d : Entry) → k < length es → ((slice_index_or es k d).number ≡ k) × ((slice_index_or es k d).row.now ≡ slice_index_or rows k zero_row))

-- no entry stands before an earlier one
abbrev pub IsSortedIndex : List Entry → Type 0
IsSortedIndex es = (i j : ℕ) (d : Entry) → i ≤ j → j < length es → row_lt (slice_index_or es j d).row.now (slice_index_or es i d).row.now ≡ false

-- each row once, with its number, and in order
pub record IsIndex (rows : List Row) (es : List Entry) : Type 0 where
  pub rows_in : (k : ℕ) (d : Entry) → k < length es → ((slice_index_or es k d).number < length rows) × ((slice_index_or es k d).row.now ≡ slice_index_or rows (slice_index_or es k d).number zero_row)
  pub distinct : (i j : ℕ) (d : Entry) → i < j → j < length es → (slice_index_or es i d).number ≢ (slice_index_or es j d).number
  pub complete : (n : ℕ) → n < length rows → (k : ℕ) × (k < length es) × ((d : Entry) → (slice_index_or es k d).number ≡ n)
  pub sorted : IsSortedIndex es

-- a + b has the pairs t, and a constant of at most c
pub record Reaches (a b : Row) (t : List (ℕ × ℤ)) (c : ℤ) : Type 0 where
  pub pairs : (u : ℕ) → coefficient_of a.pairs u +ℤ coefficient_of b.pairs u ≡ coefficient_of t u
  pub constant : (a.constant +ℤ b.constant) ≤ℤ c

-- how a + b stands to the pairs t and the constant c
abbrev pub IsReached : Ordering → Row → Row → List (ℕ × ℤ) → ℤ → Type 0
IsReached Less a b t c = IsCompared Less (λ u. coefficient_of a.pairs u +ℤ pos 1 *ℤ coefficient_of b.pairs u) (coefficient_of t)
IsReached Equal a b t c = Reaches a b t c
IsReached Greater a b t c =
    IsCompared Greater (λ u. coefficient_of a.pairs u +ℤ pos 1 *ℤ coefficient_of b.pairs u) (coefficient_of t) ⊎ (IsCompared Equal (λ u. coefficient_of a.pairs u +ℤ pos 1 *ℤ coefficient_of b.pairs u) (coefficient_of t) × (c <ℤ (a.constant +ℤ b.constant)))

-- no two entries have that sum
abbrev pub NoneReaches : List Entry → List (ℕ × ℤ) → ℤ → Type 0
NoneReaches es t c = (i j : ℕ) (d : Entry) → i < j → j < length es → ¬ (Reaches (slice_index_or es i d).row.now (slice_index_or es j d).row.now t c)

-- two entries with the numbers n and m have that sum
abbrev pub IsFound : List Entry → List (ℕ × ℤ) → ℤ → ℕ → ℕ → Type 0
IsFound es t c n m =
    (i : ℕ) × (j : ℕ) × (d : Entry) × (i < j) × (j < length es) × ((slice_index_or es i d).number ≡ n) × ((slice_index_or es j d).number ≡ m) × Reaches (slice_index_or es i d).row.now (slice_index_or es j d).row.now t c
