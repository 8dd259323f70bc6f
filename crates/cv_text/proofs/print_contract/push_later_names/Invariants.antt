use Rattle.std.proofs.Common.{◌≡◌, ◌++◌, drop, codes}
use Rattle.std.specs.List.{flat_map}
use Rattle.cv_text.specs.PrintedContract as spec
use Rattle.cv_text.proofs.print_contract.push_later_names.Given as goal

abbrev pub invariant-loop-name : goal.invariant-loop-name
invariant-loop-name l = l.out.items ++ flat_map (λ x. codes ", " ++ x) (drop l.name-index l.names) ≡ l.fn.out.items ++ flat_map (λ x. codes ", " ++ x) l.fn.names
