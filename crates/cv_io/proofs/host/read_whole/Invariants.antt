use Rattle.std.proofs.Common.{◌+◌, ◌-◌, ◌≤◌, length}
use Rattle.std.specs.Io.KnownBytes.{Consumes}
use Rattle.cv_io.proofs.host.read_whole.Given as goal

abbrev pub invariant-loop-piece : goal.invariant-loop-piece
invariant-loop-piece g l = (length l.whole.items ≤ l.limit + 1) × Consumes (g.R.Read.remaining l.initial.from) (g.R.Read.remaining l.from) l.whole.items

abbrev pub decreases-loop-piece : goal.decreases-loop-piece
decreases-loop-piece g l = (l.limit + 1) - length l.whole.items
