use Rattle.std.proofs.Common.{arith, refl}
use Rattle.cv_points.proofs.Kept.{all_kept, one_kept}
use Rattle.cv_points.proofs.distinct.distinct.Goals as goal

pub loop-rule-preserved : goal.loop-rule-preserved
loop-rule-preserved c =
    one_kept c.args.rules.now c.loop-rule.kept.items c.keep.new.kept.items c.loop-rule.rule-index _ _ (omega arith) refl c.loop-rule.invariant c.in_ok-keep.ensures

pub returns : goal.returns
returns c = all_kept c.args.rules.now c.loop-rule.kept.items c.loop-rule.rule-index (omega arith) c.loop-rule.invariant
