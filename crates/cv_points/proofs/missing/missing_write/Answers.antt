use Rattle.std.proofs.Common.{ℕ, subst}
use Rattle.std.specs.List.{Contains}
use Rattle.cv_points.specs.Missing.{CellWritten}
use Rattle.cv_points.proofs.Lists.{passed, all_passed}
use Rattle.cv_points.proofs.missing.missing_write.Goals as goal

pub loop-s-preserved : goal.loop-s-preserved
loop-s-preserved c = (passed (λ s. CellWritten c.args.p.now c.args.sets.now c.args.from s) c.set_at-pointed.result.now c.loop-s.s-index c.loop-s-test.true c.loop-s.invariant.0 c.in-None.ensures.missing, c.in-None.ensures.cursor)

pub returns : goal.returns
returns c =
    subst (λ xs. (s : ℕ) → Contains xs s → CellWritten c.args.p.now c.args.sets.now c.args.from s) c.set_at-pointed.ensures
    (all_passed (λ s. CellWritten c.args.p.now c.args.sets.now c.args.from s) c.set_at-pointed.result.now c.loop-s.s-index c.loop-s-test.false c.loop-s.invariant.0)
