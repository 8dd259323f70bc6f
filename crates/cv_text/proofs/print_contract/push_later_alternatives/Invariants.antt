use Rattle.std.proofs.Common.{◌≡◌, ◌++◌, drop, codes}
use Rattle.std.specs.List.{flat_map}
use Rattle.cv_text.specs.PrintedContract as spec
use Rattle.cv_text.proofs.print_contract.push_later_alternatives.Given as goal

abbrev pub invariant-loop-atoms : goal.invariant-loop-atoms
invariant-loop-atoms l = l.out.items ++ flat_map (λ atoms. codes " | " ++ spec.atoms_text atoms) (drop l.atoms-index l.alternatives) ≡ l.fn.out.items ++ flat_map (λ atoms. codes " | " ++ spec.atoms_text atoms) l.fn.alternatives
