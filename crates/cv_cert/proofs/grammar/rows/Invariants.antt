use Rattle.std.proofs.Common.{◌≡◌, ◌-◌}
use Rattle.cv_cert.specs.Reading.{lines_in}
use Rattle.cv_cert.specs.Lines.{rows}
use Rattle.cv_cert.proofs.Loops.{left_after, row_item, row_next}
use Rattle.cv_cert.specs.Views.{last_row}
use Rattle.cv_cert.proofs.RowOrder.{last_push}
use Rattle.cv_cert.proofs.grammar.rows.Given as goal

abbrev pub invariant-loop-done : goal.invariant-loop-done
invariant-loop-done l = left_after row_item row_next last_row last_push l.found (l.count - l.done) (lines_in l.rest) ≡ rows l.fn.count (lines_in l.fn.text)
