use Rattle.std.proofs.Common.{ℕ, ℤ, subst, sym}
use Rattle.std.specs.List.{Contains}
use Rattle.cv_ppts.specs.Numbers.{IsNumber, Rows, row_at}
use Rattle.cv_ppts.proofs.fixpoint.targets.Goals as goal

pub returns-clause-numbers : goal.returns-clause-numbers
returns-clause-numbers c = subst (λ (T : Rows). (h : ℕ) (n : ℤ) → Contains (row_at T h) n → IsNumber n) (sym c.from_vec.ensures) c.in_ok-sets.ensures.numbers
