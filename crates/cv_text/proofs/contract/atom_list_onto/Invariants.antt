use Rattle.std.proofs.Common.{◌≡◌, length}
use Rattle.cv_reading.specs.Deep.{more_onto}
use Rattle.cv_text.specs.declared.token.Sign.TheVariants as sign
use Rattle.cv_text.specs.ContractReader.{later_items, atom}
use Rattle.cv_text.specs.Given.{from}
use Rattle.cv_text.proofs.contract.atom_list_onto.Given as goal

abbrev pub invariant-loop-atoms : goal.invariant-loop-atoms
invariant-loop-atoms l = more_onto l.atoms (later_items sign.Comma atom) (from l.text l.here) ≡ more_onto l.fn.before (later_items sign.Comma atom) (from l.text l.at)

abbrev pub decreases-loop-atoms : goal.decreases-loop-atoms
decreases-loop-atoms l = length (from l.text l.here)
