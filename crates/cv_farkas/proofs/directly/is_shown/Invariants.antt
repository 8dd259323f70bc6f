use Rattle.std.proofs.Common.{◌≡◌, ◌<◌, ℕ, ◌≤ℤ◌, slice_index_or}
use Rattle.cv_num.specs.declared.rows.Row.{Row}
use Rattle.cv_farkas.proofs.directly.is_shown.Given as goal

abbrev pub invariant-loop-hyp : goal.invariant-loop-hyp
invariant-loop-hyp l = (k : ℕ) (d : Row) → k < l.hyp-index → ((slice_index_or l.hyps k d).pairs ≡ l.goal.pairs) × ((slice_index_or l.hyps k d).constant ≤ℤ l.goal.constant) → ⊥
