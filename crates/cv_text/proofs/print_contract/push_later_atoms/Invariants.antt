use Rattle.std.proofs.Common.{◌≡◌, ◌++◌, drop, codes}
use Rattle.std.specs.List.{flat_map}
use Rattle.cv_text.specs.PrintedContract as spec
use Rattle.cv_text.proofs.print_contract.push_later_atoms.Given as goal

abbrev pub invariant-loop-a : goal.invariant-loop-a
invariant-loop-a l = l.out.items ++ flat_map (λ a. codes ", " ++ spec.atom_text a) (drop l.a-index l.atoms) ≡ l.fn.out.items ++ flat_map (λ a. codes ", " ++ spec.atom_text a) l.fn.atoms
