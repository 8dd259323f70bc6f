use Rattle.std.proofs.Common.{◌≡◌, ◌+◌, length}
use Rattle.cv_cert.specs.Reading.{lines_in}
use Rattle.cv_cert.proofs.lines.lines_left.Given as goal

abbrev pub invariant-loop-after : goal.invariant-loop-after
invariant-loop-after l = l.count + length (lines_in l.rest) ≡ length (lines_in l.fn.text)

abbrev pub decreases-loop-after : goal.decreases-loop-after
decreases-loop-after l = length l.rest
