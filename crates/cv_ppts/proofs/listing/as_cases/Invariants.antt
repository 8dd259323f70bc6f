use Rattle.std.proofs.Common.{◌≡◌}
use Rattle.cv_ppts.specs.Cases.{codes_of}
use Rattle.cv_ppts.proofs.listing.as_cases.Given as goal

abbrev pub invariant-loop-codes : goal.invariant-loop-codes
invariant-loop-codes l = codes_of l.cases.items ≡ l.yielded
