use Rattle.std.proofs.Common.{rules}
use Rattle.cv_cert.proofs.Splits.{lines_short}
use Rattle.cv_cert.proofs.lines.lines_left.Goals as goal

pub overflow_add-count : goal.overflow_add-count
overflow_add-count c = search (rules, lines_short c.args.text.now)

pub overflow_add-result : goal.overflow_add-result
overflow_add-result c = search (rules, lines_short c.args.text.now)
