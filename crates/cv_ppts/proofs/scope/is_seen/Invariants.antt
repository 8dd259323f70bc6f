use Rattle.std.proofs.Common.{◌≡◌, false}
use Rattle.cv_ppts.specs.Entities.{is_member}
use Rattle.cv_ppts.specs.Keys.{keys, seen_numbers, setting}
use Rattle.cv_ppts.proofs.scope.is_seen.Given as goal

abbrev pub invariant-loop-earlier : goal.invariant-loop-earlier
invariant-loop-earlier l = is_member l.number (seen_numbers (keys (setting l.s) l.which) l.earlier) ≡ false
