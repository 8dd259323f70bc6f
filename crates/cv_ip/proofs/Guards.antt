-- Whether all rows of a guard are met, by a walk over them.
use Rattle.std.proofs.Common.{◌≡◌, ◌∙◌, refl, ℕ, ◌+◌, ◌<◌, ◌≤◌, Bool, true, List, length, slice_index_or, subst, take}
use Rattle.std.specs.Prelude.{◌↔◌, IsTrue}
use Rattle.std.proofs.lemmas.List.{take_all}
use Rattle.std.proofs.lemmas.List.Elements.{All-more}
use Rattle.cv_num.specs.declared.rows.Row.{Row}
use Rattle.cv_ip.specs.Takes.{AreMet, IsMet, Valuation}

pub one_more : (p : Valuation) (items : List Row) (i : ℕ) (d r : Row) (b : Bool) → i < length items → r ≡ slice_index_or items i d → IsTrue b ↔ IsMet p r → b ≡ true → AreMet p (take i items) → AreMet p (take (i + 1) items)
one_more p items i d r b lt is met e earlier = All-more (IsMet p) items i d lt earlier (subst (IsMet p) is (met.0 e))

pub all_met : (p : Valuation) (rows items : List Row) (i : ℕ) → items ≡ rows → length items ≤ i → AreMet p (take i items) → IsTrue true ↔ AreMet p rows
all_met p rows items i e past earlier = ((λ t. subst (AreMet p) (take_all i items past ∙ e) earlier), λ all. refl)
