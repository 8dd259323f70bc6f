use Rattle.std.proofs.Common.{◌≡◌, ◌++◌, drop, codes}
use Rattle.std.specs.List.{flat_map}
use Rattle.cv_text.specs.Printed as spec
use Rattle.cv_text.proofs.print_statement.push_later_arguments.Given as goal

abbrev pub invariant-loop-e : goal.invariant-loop-e
invariant-loop-e l = l.out.items ++ flat_map (λ e. codes ", " ++ spec.any_text e) (drop l.e-index l.args) ≡ l.fn.out.items ++ flat_map (λ e. codes ", " ++ spec.any_text e) l.fn.args
