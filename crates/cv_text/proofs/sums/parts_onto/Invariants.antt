use Rattle.std.proofs.Common.{◌≡◌, length}
use Rattle.cv_reading.specs.Deep.{more_onto}
use Rattle.cv_text.specs.ContractReader.{later_parts}
use Rattle.cv_text.specs.Given.{from}
use Rattle.cv_text.proofs.sums.parts_onto.Given as goal

abbrev pub invariant-loop-parts : goal.invariant-loop-parts
invariant-loop-parts l = more_onto l.parts later_parts (from l.text l.here) ≡ more_onto l.fn.before later_parts (from l.text l.at)

abbrev pub decreases-loop-parts : goal.decreases-loop-parts
decreases-loop-parts l = length (from l.text l.here)
