use Rattle.std.proofs.Common.{List, ℕ, ◌≡◌, subst}
use Rattle.cv_points.specs.Closed.{IsSubset}
use Rattle.cv_points.proofs.missing.missing_within.Goals as goal

moved : (a b x y : List ℕ) → a ≡ x → b ≡ y → IsSubset a b → IsSubset x y
moved a b x y e f h = subst (λ v. IsSubset x v) f (subst (λ u. IsSubset u b) e h)

pub returns-in-None : goal.returns-in-None
returns-in-None c = moved _ _ _ _ c.set_at.ensures c.set_at-2.ensures c.in-None.ensures
