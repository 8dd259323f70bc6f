use Rattle.std.proofs.Common.{ℕ, subst}
use Rattle.std.specs.List.{Contains}
use Rattle.cv_points.specs.Missing.{CellRead}
use Rattle.cv_points.proofs.Lists.{passed, all_passed}
use Rattle.cv_points.proofs.missing.missing_read.Goals as goal

pub loop-s-preserved : goal.loop-s-preserved
loop-s-preserved c = (passed (λ s. CellRead c.args.p.now c.args.sets.now s c.args.to) c.set_at-pointed.result.now c.loop-s.s-index c.loop-s-test.true c.loop-s.invariant.0 c.in-None.ensures.missing, c.in-None.ensures.cursor)

pub returns : goal.returns
returns c =
    subst (λ xs. (s : ℕ) → Contains xs s → CellRead c.args.p.now c.args.sets.now s c.args.to) c.set_at-pointed.ensures
    (all_passed (λ s. CellRead c.args.p.now c.args.sets.now s c.args.to) c.set_at-pointed.result.now c.loop-s.s-index c.loop-s-test.false c.loop-s.invariant.0)
