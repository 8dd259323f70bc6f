use Rattle.std.proofs.Common.{arith, ◌≤◌, ◌-◌, length, to_z, of_z}
use Rattle.std.specs.Int.{w128}
use Rattle.std.specs.declared.cmp.Ordering.TheVariants.{Less, Greater}
use Rattle.cv_farkas.proofs.SearchLemmas.{reached_at, walk_up, walk_down}
use Rattle.cv_farkas.proofs.search.find_sum.Goals as goal

pub loop-high-preserved-in-Less : goal.loop-high-preserved-in-Less
loop-high-preserved-in-Less c =
    let inside : c.loop-high.high ≤ length c.args.index.now = c.loop-high.invariant.inside in
    walk_up c.args.index.now c.args.pairs.now _ c.loop-high.low c.loop-high.high c.loop-high.invariant (omega arith) c.requires.sorted
    (λ d. reached_at c.args.index.now c.loop-high.low (c.loop-high.high - 1) c.index-index-low.result c.index-index-high.result d c.args.pairs.now (to_z w128 (of_z w128 c.args.constant)) Less (omega arith) (omega arith) c.index-index-low.is c.index-index-high.is c.in-Less.ensures)

pub loop-high-preserved : goal.loop-high-preserved
loop-high-preserved c =
    let inside : c.loop-high.high ≤ length c.args.index.now = c.loop-high.invariant.inside in
    walk_down c.args.index.now c.args.pairs.now _ c.loop-high.low c.loop-high.high c.loop-high.invariant (omega arith) c.requires.sorted
    (λ d. reached_at c.args.index.now c.loop-high.low (c.loop-high.high - 1) c.index-index-low.result c.index-index-high.result d c.args.pairs.now (to_z w128 (of_z w128 c.args.constant)) Greater (omega arith) (omega arith) c.index-index-low.is c.index-index-high.is c.in-Greater.ensures)
