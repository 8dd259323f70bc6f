use Rattle.std.proofs.Common.{◌≡◌, ◌≤◌, ◌*◌, ◌+◌, ◌^◌, ◌+ℤ◌, take, length}
use Rattle.std.specs.Int.RustNames.{unsigned_abs}
use Rattle.cv_num.specs.Pairs.{sum_at}
use Rattle.cv_ip.specs.Takes.{entries, with_fresh}
use Rattle.cv_ip.proofs.guard.worth.Given as goal

abbrev pub invariant-loop-variable : goal.invariant-loop-variable
invariant-loop-variable l = record {
  value : l.sum ≡ l.r.constant +ℤ sum_at (with_fresh (length l.old) (entries l.old) (entries l.fresh)) (take l.variable-index l.variable-items);
  small : unsigned_abs l.sum ≤ 2 ^ 63 + l.variable-index * (2 ^ 63 * 2 ^ 40);
}
