use Rattle.std.proofs.Common.{◌≡◌, length}
use Rattle.cv_text.specs.Reader.{a_name}
use Rattle.cv_reading.specs.Deep.{more_onto, plain}
use Rattle.cv_text.specs.declared.token.Sign.TheVariants as sign
use Rattle.cv_text.specs.ContractReader.{later_items}
use Rattle.cv_text.specs.Given.{from}
use Rattle.cv_text.proofs.contract.names_onto.Given as goal

abbrev pub invariant-loop-names : goal.invariant-loop-names
invariant-loop-names l = more_onto l.names (later_items sign.Comma (plain a_name)) (from l.text l.here) ≡ more_onto l.fn.before (later_items sign.Comma (plain a_name)) (from l.text l.at)

abbrev pub decreases-loop-names : goal.decreases-loop-names
decreases-loop-names l = length (from l.text l.here)
