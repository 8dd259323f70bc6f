use Rattle.std.proofs.Common.{refl}
use Rattle.cv_cert.specs.Lines.{is_case, count_of, if_true}
use Rattle.cv_cert.proofs.Loops.{no_line_fails}
use Rattle.cv_cert.proofs.grammar.case_line.Goals as goal

pub returns-in_default : goal.returns-in_default
unfolding is_case count_of
returns-in_default c = no_line_fails (λ line. if_true (is_case c.args.n line)) c.args.text.now c.fault.result refl c.in_default.ensures c.fault.ensures
