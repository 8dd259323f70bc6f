use Rattle.std.proofs.Common.{rules}
use Rattle.cv_cert.proofs.Splits.{lines_short}
use Rattle.cv_cert.proofs.read.line_number.Goals as goal

pub overflow_add-result : goal.overflow_add-result
overflow_add-result c = search (rules, lines_short c.args.text.now)

pub overflow_cast-result : goal.overflow_cast-result
overflow_cast-result c = search (rules, lines_short c.args.text.now)
