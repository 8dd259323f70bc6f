use Rattle.std.proofs.Common.{refl}
use Rattle.cv_cert.specs.Lines.{heading_of, block_of, is_end}
use Rattle.cv_cert.proofs.Loops.{no_line_fails}
use Rattle.cv_cert.proofs.grammar.heading.Goals as goal

pub returns-in_default : goal.returns-in_default
unfolding heading_of block_of is_end
returns-in_default c = no_line_fails (heading_of) c.args.text.now c.fault.result refl c.in_default.ensures c.fault.ensures
