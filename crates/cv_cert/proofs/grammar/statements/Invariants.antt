use Rattle.std.proofs.Common.{◌≡◌, length}
use Rattle.cv_cert.specs.Reading.{lines_in, many}
use Rattle.cv_cert.specs.Lines.{statement, statements}
use Rattle.cv_cert.proofs.Laws.{onto_many}
use Rattle.cv_cert.proofs.Phrases.{statement_next}
use Rattle.cv_cert.proofs.grammar.statements.Given as goal

abbrev pub invariant-loop-found : goal.invariant-loop-found
invariant-loop-found l = onto_many l.found (many statement statement_next (length l.found) (lines_in l.rest)) ≡ statements (lines_in l.fn.text)

abbrev pub decreases-loop-found : goal.decreases-loop-found
decreases-loop-found l = length (lines_in l.rest)
