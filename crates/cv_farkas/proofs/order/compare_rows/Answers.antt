use Rattle.std.proofs.Common.{subst, ◌≡◌, ℕ, ℤ, pos, negsuc, ◌+ℤ◌, ◌*ℤ◌, List, []}
use Rattle.cv_num.specs.Pairs.{coefficient_of}
use Rattle.cv_farkas.specs.Order.{IsCompared}
use Rattle.cv_farkas.proofs.OrderLemmas.{equal_rows, unequal_rows}
use Rattle.cv_farkas.proofs.order.compare_rows.Goals as goal

pub returns-in-Equal : goal.returns-in-Equal
returns-in-Equal c =
    let P : List (ℕ × ℤ) → Type 0 = λ xs. (u : ℕ) → coefficient_of xs u +ℤ negsuc 0 *ℤ coefficient_of c.as_slice-2.result.now u ≡ pos 0 in
    let Q : List (ℕ × ℤ) → Type 0 = λ xs. (u : ℕ) → coefficient_of c.args.a.now.pairs u +ℤ negsuc 0 *ℤ coefficient_of xs u ≡ pos 0 in
    equal_rows c.args.a.now c.args.b.now c.cmp.result c.cmp.ensures (subst Q c.as_slice-2.ensures.value (subst P c.as_slice.ensures.value c.in-Equal.ensures))

pub returns-in_default : goal.returns-in_default
returns-in_default c =
    let P : List (ℕ × ℤ) → Type 0 = λ xs. IsCompared c.compare_combined.result (λ u. coefficient_of xs u +ℤ negsuc 0 *ℤ coefficient_of c.as_slice-2.result.now u) (coefficient_of []) in
    let Q : List (ℕ × ℤ) → Type 0 = λ xs. IsCompared c.compare_combined.result (λ u. coefficient_of c.args.a.now.pairs u +ℤ negsuc 0 *ℤ coefficient_of xs u) (coefficient_of []) in
    unequal_rows c.args.a.now c.args.b.now c.compare_combined.result c.in_default.not-Equal (subst Q c.as_slice-2.ensures.value (subst P c.as_slice.ensures.value c.compare_combined.ensures))
