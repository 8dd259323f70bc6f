use Rattle.std.proofs.Common.{◌≡◌, length}
use Rattle.cv_reading.specs.Deep.{more_onto}
use Rattle.cv_text.specs.declared.token.Sign.TheVariants as sign
use Rattle.cv_text.specs.ContractReader.{later_items, atom_list}
use Rattle.cv_text.specs.Given.{from}
use Rattle.cv_text.proofs.contract.alternatives_onto.Given as goal

abbrev pub invariant-loop-alternatives : goal.invariant-loop-alternatives
invariant-loop-alternatives l = more_onto l.alternatives (later_items sign.Bar atom_list) (from l.text l.here) ≡ more_onto l.fn.before (later_items sign.Bar atom_list) (from l.text l.at)

abbrev pub decreases-loop-alternatives : goal.decreases-loop-alternatives
decreases-loop-alternatives l = length (from l.text l.here)
