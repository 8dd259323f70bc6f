use Rattle.std.proofs.Common.{◌≡◌, ◌++◌, drop, codes}
use Rattle.std.specs.List.{flat_map}
use Rattle.cv_text.specs.PrintedContract as spec
use Rattle.cv_text.proofs.print_contract.push_later_parts.Given as goal

abbrev pub invariant-loop-part : goal.invariant-loop-part
invariant-loop-part l = l.out.items ++ flat_map (spec.later_part_text) (drop l.part-index l.parts) ≡ l.fn.out.items ++ flat_map (spec.later_part_text) l.fn.parts
