use Rattle.std.proofs.Common.{◌≡◌, ◌-◌, length}
use Rattle.cv_cert.specs.Reading.{lines_in}
use Rattle.cv_cert.specs.Lines.{cases}
use Rattle.cv_cert.proofs.Loops.{left_after, case_item, case_next, case_number, case_pushed}
use Rattle.cv_cert.proofs.grammar.cases.Given as goal

abbrev pub invariant-loop-done : goal.invariant-loop-done
invariant-loop-done l = (left_after case_item case_next case_number case_pushed l.found (l.count - l.done) (lines_in l.rest) ≡ cases l.fn.count (lines_in l.fn.text)) × (l.done ≡ length l.found)
