use Rattle.std.proofs.Common.{refl}
use Rattle.cv_cert.specs.Lines.{statement_of, at_of, picks_of}
use Rattle.cv_cert.proofs.Loops.{no_line_fails}
use Rattle.cv_cert.proofs.grammar.start.Goals as goal

pub returns-in_default : goal.returns-in_default
unfolding statement_of at_of picks_of
returns-in_default c = no_line_fails (statement_of c.args.n) c.args.text.now c.fault.result refl c.in_default.ensures c.fault.ensures
