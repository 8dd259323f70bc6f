use Rattle.std.specs.List.{Contains}
use Rattle.cv_points.proofs.Lists.{passed, all_passed}
use Rattle.cv_points.proofs.missing.first_searched.Goals as goal

pub loop-s-preserved : goal.loop-s-preserved
loop-s-preserved c = passed (Contains c.args.to.now) c.args.from.now c.loop-s.s-index c.loop-s-test.true c.loop-s.invariant c.if-not-has_site.ensures.answer

pub returns : goal.returns
returns c = all_passed (Contains c.args.to.now) c.args.from.now c.loop-s.s-index c.loop-s-test.false c.loop-s.invariant
