use Rattle.std.proofs.Common.{ℕ, arith, refl}
use Rattle.cv_points.specs.Closed.{Family}
use Rattle.cv_points.specs.Growing.{WritesCell}
use Rattle.cv_points.proofs.Grown.{grows_all, grows_next}
use Rattle.cv_points.proofs.growth.write_cells.Goals as goal

pub loop-site-preserved : goal.loop-site-preserved
loop-site-preserved c =
    grows_next c.args.sets.now.items c.loop-site.sets.items c.write_cell.new.sets.items c.loop-site.more c.in_ok-grew.grew c.either-more.result (λ (R : Family) (s : ℕ). WritesCell c.args.cells.now R c.args.from s) c.args.pointed.now c.loop-site.site-index _ 0
    c.either-more.ensures (omega arith) refl c.loop-site.invariant c.in_ok-grew.ensures

pub returns : goal.returns
returns c =
    grows_all c.args.sets.now.items c.loop-site.sets.items c.loop-site.more (λ (R : Family) (s : ℕ). WritesCell c.args.cells.now R c.args.from s) c.args.pointed.now c.loop-site.site-index (omega arith) (omega arith) c.loop-site.invariant
