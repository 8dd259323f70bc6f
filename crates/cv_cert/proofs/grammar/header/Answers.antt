use Rattle.std.proofs.Common.{refl}
use Rattle.cv_cert.specs.Lines.{is_header, if_true}
use Rattle.cv_cert.proofs.Loops.{no_line_fails}
use Rattle.cv_cert.proofs.grammar.header.Goals as goal

pub returns-in_default : goal.returns-in_default
unfolding is_header
returns-in_default c = no_line_fails (λ line. if_true (is_header line)) c.args.text.now c.fault.result refl c.in_default.ensures c.fault.ensures
