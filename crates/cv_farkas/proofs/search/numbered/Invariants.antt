use Rattle.std.proofs.Common.{◌≡◌, ◌<◌, ℕ, length, slice_index_or}
use Rattle.cv_num.specs.Algebra.{zero_row}
use Rattle.cv_farkas.specs.declared.search.Entry.{Entry}
use Rattle.cv_farkas.proofs.search.numbered.Given as goal

abbrev pub invariant-loop-row : goal.invariant-loop-row
invariant-loop-row l =
    (l.number ≡ l.row-index) × (length l.entries.items ≡ l.row-index) × ((k : ℕ) (d : Entry) → k < l.row-index → ((slice_index_or l.entries.items k d).number ≡ k) × ((slice_index_or l.entries.items k d).row.now ≡ slice_index_or l.rows k zero_row))
