use Rattle.std.proofs.Common.{◌≡◌, ◌++◌, drop, codes}
use Rattle.std.specs.List.{flat_map}
use Rattle.cv_text.specs.PrintedContract as spec
use Rattle.cv_text.proofs.print_contract.push_later_items.Given as goal

abbrev pub invariant-loop-item : goal.invariant-loop-item
invariant-loop-item l = l.out.items ++ flat_map (λ i. codes ", " ++ spec.item_text i) (drop l.item-index l.items) ≡ l.fn.out.items ++ flat_map (λ i. codes ", " ++ spec.item_text i) l.fn.items
