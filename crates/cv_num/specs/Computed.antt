-- What the operations give, by coefficients, is what the algebra computes.
use Rattle.std.proofs.Common.{◌≡◌, ℕ, ℤ, ◌+ℤ◌, List, sym, ap, ◌∙◌}
use Rattle.cv_num.specs.declared.rows.Row.{Row}
use Rattle.cv_num.specs.declared.rows.Wide.{Wide}
use Rattle.cv_num.specs.Pairs.{IsCanonical, coefficient_of}
use Rattle.cv_num.specs.Rows.{IsSum, as_row}
use Rattle.cv_num.specs.Assigned.{IsSubst}
use Rattle.cv_num.specs.Algebra.{◌⊕◌, times, substituted}
use Rattle.cv_num.specs.Values.{plus-coefficient, times-coefficient, substituted-coefficient, substituted-constant}
use Rattle.cv_num.specs.Canonical.{plus-canonical, times-canonical, substituted-canonical, same_row}

pub sum_computed : (a : Row) (k : ℤ) (b r : Row) → IsCanonical b.pairs → IsCanonical r.pairs → IsSum a k b r → r ≡ a ⊕ times k b
sum_computed a k b r cb cr h =
    same_row r (a ⊕ times k b) cr (plus-canonical a (times k b) (times-canonical k b cb))
    (λ u. h.coefficients u ∙ sym (plus-coefficient a (times k b) u ∙ ap (λ z. coefficient_of a.pairs u +ℤ z) (times-coefficient k b u))) h.constant

pub subst_computed : (by : List (ℕ × Row)) (r : Row) (w : Wide) → IsCanonical w.pairs → IsSubst by r w → as_row w ≡ substituted by r
subst_computed by r w cw h =
    same_row (as_row w) (substituted by r) cw (substituted-canonical by r)
    (λ u. h.coefficients u ∙ sym (substituted-coefficient by r u)) (h.constant ∙ sym (substituted-constant by r))
