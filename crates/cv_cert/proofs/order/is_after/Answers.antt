use Rattle.std.proofs.Common.{sym, ap, ◌∙◌, arith, Option, Some, List, ℕ, ℤ}
use Rattle.cv_num.specs.declared.rows.Row.{Row}
use Rattle.cv_cert.specs.Certificate.{is_before}
use Rattle.cv_cert.specs.Tokens.{is_after}
use Rattle.cv_cert.proofs.RowOrder.{last_is}
use Rattle.cv_cert.proofs.order.is_after.Goals as goal

pub returns-in-len1-up : goal.returns-in-len1-up
returns-in-len1-up c =
    c.is_before.ensures
    ∙ ap (λ (ps : List (ℕ × ℤ)). is_before ps c.as_slice-in-len1-up.result.now) c.as_slice.ensures.value
    ∙ ap (λ (ps : List (ℕ × ℤ)). is_before c.last-item.result.pairs ps) c.as_slice-in-len1-up.ensures.value
    ∙ ap (λ (o : Option Row). is_after o c.args.r.now) (ap (λ (r : Row). Some r) c.last-item.is ∙ sym (last_is c.args.rows.now c.last-item.result (omega arith)))
