use Rattle.std.proofs.Common.{◌≡◌, ◌≤◌, ◌^◌, take}
use Rattle.std.specs.Int.RustNames.{unsigned_abs}
use Rattle.std.specs.List.{All}
use Rattle.cv_num.proofs.rows.widen.Given as goal

abbrev pub invariant-loop-variable : goal.invariant-loop-variable
invariant-loop-variable l = record {
  same : l.items.items ≡ take l.variable-index l.variable-items;
  small : All (λ p. unsigned_abs p.1 ≤ 2 ^ 102) l.items.items;
}
