use Rattle.std.proofs.Common.{refl}
use Rattle.cv_cert.specs.Lines.{next_row_of, row_of}
use Rattle.cv_cert.specs.Views.{last_row}
use Rattle.cv_cert.proofs.Loops.{no_line_fails}
use Rattle.cv_cert.proofs.grammar.row.Goals as goal

pub returns-in_default : goal.returns-in_default
unfolding next_row_of row_of
returns-in_default c = no_line_fails (next_row_of c.args.left (last_row c.args.before.now)) c.args.text.now c.fault.result refl c.in_default.ensures c.fault.ensures
