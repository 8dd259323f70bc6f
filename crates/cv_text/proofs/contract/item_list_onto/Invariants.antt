use Rattle.std.proofs.Common.{◌≡◌, length}
use Rattle.cv_reading.specs.Deep.{more_onto}
use Rattle.cv_text.specs.declared.token.Sign.TheVariants as sign
use Rattle.cv_text.specs.ContractReader.{later_items, item}
use Rattle.cv_text.specs.Given.{from}
use Rattle.cv_text.proofs.contract.item_list_onto.Given as goal

abbrev pub invariant-loop-items : goal.invariant-loop-items
invariant-loop-items l = more_onto l.items (later_items sign.Comma item) (from l.text l.here) ≡ more_onto l.fn.before (later_items sign.Comma item) (from l.text l.at)

abbrev pub decreases-loop-items : goal.decreases-loop-items
decreases-loop-items l = length (from l.text l.here)
