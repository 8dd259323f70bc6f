use Rattle.std.proofs.Common.{refl}
use Rattle.cv_cert.specs.Lines.{set_of}
use Rattle.cv_cert.proofs.Loops.{no_line_fails}
use Rattle.cv_cert.proofs.grammar.set.Goals as goal

pub returns-in_default : goal.returns-in_default
unfolding set_of
returns-in_default c = no_line_fails (set_of) c.args.text.now c.fault.result refl c.in_default.ensures c.fault.ensures
