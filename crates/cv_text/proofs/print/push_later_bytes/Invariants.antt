use Rattle.std.proofs.Common.{◌≡◌, ◌++◌, drop, codes, decimal}
use Rattle.std.specs.List.{flat_map}
use Rattle.cv_text.specs.Printed as spec
use Rattle.cv_text.proofs.print.push_later_bytes.Given as goal

abbrev pub invariant-loop-b : goal.invariant-loop-b
invariant-loop-b l = l.out.items ++ flat_map (λ b. codes ", " ++ decimal b) (drop l.b-index l.bytes) ≡ l.fn.out.items ++ flat_map (λ b. codes ", " ++ decimal b) l.fn.bytes
