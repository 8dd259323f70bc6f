use Rattle.std.proofs.Common.{◌≡◌, ◌++◌, drop, codes}
use Rattle.std.specs.List.{flat_map}
use Rattle.cv_text.specs.Printed as spec
use Rattle.cv_text.proofs.print.push_later_formals.Given as goal

abbrev pub invariant-loop-f : goal.invariant-loop-f
invariant-loop-f l = l.out.items ++ flat_map (λ f. codes ", " ++ spec.formal_text f) (drop l.f-index l.formals) ≡ l.fn.out.items ++ flat_map (λ f. codes ", " ++ spec.formal_text f) l.fn.formals
