use Rattle.std.proofs.Common.{◌≡◌, ◌≤◌}
use Rattle.cv_ppts.specs.Keys.{setting}
use Rattle.cv_ppts.specs.Setting.{cell_blocks}
use Rattle.cv_ppts.proofs.scope.cell_blocks.Given as goal

abbrev pub invariant-loop-block : goal.invariant-loop-block
invariant-loop-block l = (l.cells ≡ cell_blocks (setting l.s) l.block) × (l.cells ≤ l.block)
