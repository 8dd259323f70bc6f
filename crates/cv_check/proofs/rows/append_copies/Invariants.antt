use Rattle.std.proofs.Common.{◌≡◌, ◌++◌, take}
use Rattle.cv_check.proofs.rows.append_copies.Given as goal

abbrev pub invariant-loop-r : goal.invariant-loop-r
invariant-loop-r l = l.into.items ≡ l.initial.into.items ++ take l.r-index l.rows
