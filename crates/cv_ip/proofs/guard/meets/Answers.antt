use Rattle.std.proofs.Common.{length}
use Rattle.cv_ip.specs.Takes.{Valuation, entries, with_fresh}
use Rattle.cv_ip.proofs.Guards.{all_met, one_more}
use Rattle.cv_ip.proofs.guard.meets.Goals as goal

pub loop-row-preserved : goal.loop-row-preserved
loop-row-preserved c =
    let p : Valuation = with_fresh (length c.args.old.now) (entries c.args.old.now) (entries c.args.fresh.now) in
    one_more p c.as_slice-row-items.result.now c.loop-row.row-index _ c.row-item.result c.is_met.result c.loop-row-test.true c.row-item.is c.is_met.ensures
    c.if-not-is_met.false c.loop-row.invariant

pub returns : goal.returns
returns c =
    let p : Valuation = with_fresh (length c.args.old.now) (entries c.args.old.now) (entries c.args.fresh.now) in
    all_met p c.args.t.now.guard c.as_slice-row-items.result.now c.loop-row.row-index c.as_slice-row-items.ensures c.loop-row-test.false c.loop-row.invariant
