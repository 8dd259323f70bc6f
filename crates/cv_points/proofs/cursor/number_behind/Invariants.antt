use Rattle.std.proofs.Common.{◌-◌, ◌≤◌, length}
use Rattle.cv_points.specs.Cursors.{IsCursor}
use Rattle.cv_points.proofs.cursor.number_behind.Given as goal

abbrev pub invariant-loop-f : goal.invariant-loop-f
invariant-loop-f l = IsCursor l.p l.at × (l.at.objects ≤ l.object)

abbrev pub decreases-loop-f : goal.decreases-loop-f
decreases-loop-f l = length l.p.procs - l.at.proc
