use Rattle.std.proofs.Common.{rules, ℕ, ℤ, pos, FitsSigned, w64, slice_index_or, length, ◌≤◌}
use Rattle.cv_num.specs.Turns.{value_turn}
use Rattle.cv_ip.specs.Takes.{entries, with_fresh}
use Rattle.cv_ip.proofs.guard.worth.Goals as goal

pub loop-variable-preserved : goal.loop-variable-preserved
loop-variable-preserved c =
    let i = c.loop-variable.variable-index in
    let pairs = c.as_slice-variable-items.result.now in
    let at : ℕ → ℤ = with_fresh (length c.args.old.now) (entries c.args.old.now) (entries c.args.fresh.now) in
    let fc : FitsSigned w64 (slice_index_or pairs i (0, pos 0)).1 = search rules in
    let few : length pairs ≤ 4096 = rw c.as_slice-variable-items.ensures.value c.requires.few in
    let turn = value_turn at pairs i c.args.r.now.constant _ c.plus_product-sum.result c.entry.result c.loop-variable-test.true few fc c.entry.ensures.small c.entry.ensures.value c.loop-variable.invariant.value c.loop-variable.invariant.small c.plus_product-sum.ensures in
    record { value = turn.0; small = turn.1 }
