use Rattle.std.proofs.Common.{ℕ}
use Rattle.cv_points.specs.Closed.{Family, MaybeHolds, global_rule}
use Rattle.cv_points.proofs.Lacking.{lacks_part, lacks_rule}
use Rattle.cv_points.proofs.statements.missing_in_globals.Goals as goal

pub returns-in-Some : goal.returns-in-Some
returns-in-Some c =
    let r = global_rule c.args.p.now c.loop-number.number in
    lacks_part c.args.sets.now (λ (R : Family). MaybeHolds c.args.p.now R r) (λ (R : Family). (n : ℕ) → MaybeHolds c.args.p.now R (global_rule c.args.p.now n))
    c.in-Some.missing.to c.in-Some.missing.site (λ R k. k c.loop-number.number)
    (lacks_rule c.args.p.now c.args.sets.now r c.in-Some.missing.to c.in-Some.missing.site (c.in-Some.ensures r c.requires c.global_rule.ensures))
