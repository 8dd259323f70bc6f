use Rattle.std.proofs.Common.{arith, refl}
use Rattle.cv_points.specs.Closed.{Family}
use Rattle.cv_points.specs.Growing.{Keeps}
use Rattle.cv_points.specs.declared.rules.Rule.{Rule}
use Rattle.cv_points.proofs.Grown.{grows_all, grows_next}
use Rattle.cv_points.proofs.growth.apply_all.Goals as goal

pub loop-rule-preserved : goal.loop-rule-preserved
loop-rule-preserved c =
    grows_next c.args.sets.now.items c.loop-rule.sets.items c.apply.new.sets.items c.loop-rule.more c.in_ok-grew.grew c.either-more.result (λ (R : Family) (r : Rule). Keeps c.args.cells.now R r) c.args.rules.now c.loop-rule.rule-index _ _
    c.either-more.ensures (omega arith) refl c.loop-rule.invariant c.in_ok-grew.ensures

pub returns : goal.returns
returns c =
    grows_all c.args.sets.now.items c.loop-rule.sets.items c.loop-rule.more (λ (R : Family) (r : Rule). Keeps c.args.cells.now R r) c.args.rules.now c.loop-rule.rule-index (omega arith) (omega arith) c.loop-rule.invariant
