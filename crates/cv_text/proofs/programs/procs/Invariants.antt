use Rattle.std.proofs.Common.{◌≡◌, [], length}
use Rattle.cv_text.specs.ProgramReader.{procs_onto}
use Rattle.cv_text.specs.ContractReader.{contract}
use Rattle.cv_text.specs.Given.{from}
use Rattle.cv_text.proofs.programs.procs.Given as goal

abbrev pub invariant-loop-line : goal.invariant-loop-line
invariant-loop-line l = procs_onto contract l.procs (from l.text l.here) ≡ procs_onto contract [] (from l.text l.at)

abbrev pub decreases-loop-line : goal.decreases-loop-line
decreases-loop-line l = length (from l.text l.here)
