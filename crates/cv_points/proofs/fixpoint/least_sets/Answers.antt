use Rattle.std.proofs.Common.{subst, sym}
use Rattle.cv_points.specs.Growing.{ArePlaces, AreRules, HaveSame}
use Rattle.cv_points.proofs.Kept.{same_rules}
use Rattle.cv_points.proofs.Saturated.{saturated_least}
use Rattle.cv_points.proofs.fixpoint.least_sets.Goals as goal

pub returns : goal.returns
returns c =
    saturated_least c.args.p.now c.args.count c.as_slice-3.result.now c.as_slice-4.result.now c.in_ok-start.start.items c.in_ok-sets.sets.items c.requires
    (subst (λ v. ArePlaces c.args.p.now v) (sym c.as_slice-3.ensures.value) c.in_ok-cells.ensures)
    (same_rules c.args.p.now c.as_slice.result.now c.as_slice-4.result.now
    (subst (λ v. HaveSame c.as_slice.result.now v) (sym c.as_slice-4.ensures.value) c.in_ok-rules.ensures)
    (subst (λ v. AreRules c.args.p.now v) (sym c.as_slice.ensures.value) c.in_ok-listed.ensures))
    c.in_ok-start.ensures c.in_ok-sets.ensures
