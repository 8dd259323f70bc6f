use Rattle.std.proofs.Common.{◌≡◌, ◌-◌}
use Rattle.cv_cert.specs.Reading.{lines_in}
use Rattle.cv_cert.specs.Lines.{set_lines}
use Rattle.cv_cert.proofs.Loops.{left_after, set_item, next_none, no_state, none_pushed}
use Rattle.cv_cert.proofs.grammar.set_lines.Given as goal

abbrev pub invariant-loop-done : goal.invariant-loop-done
invariant-loop-done l = left_after set_item next_none no_state none_pushed l.found (l.count - l._done) (lines_in l.rest) ≡ set_lines l.fn.count (lines_in l.fn.text)
