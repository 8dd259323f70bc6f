use Rattle.std.proofs.Common.{◌≡◌, length}
use Rattle.std.specs.List.{list_any}
use Rattle.cv_ppts.specs.Choices.{can_be_cell}
use Rattle.cv_ppts.specs.Keys.{setting}
use Rattle.cv_ppts.proofs.picks.some_cell.Given as goal

abbrev pub invariant-loop-rest : goal.invariant-loop-rest
invariant-loop-rest l = list_any (can_be_cell (setting l.s) l.g) l.rest ≡ list_any (can_be_cell (setting l.s) l.g) l.items

abbrev pub decreases-loop-rest : goal.decreases-loop-rest
decreases-loop-rest l = length l.rest
