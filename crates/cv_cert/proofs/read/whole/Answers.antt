use Rattle.std.proofs.Common.{arith}
use Rattle.cv_cert.specs.Reading.{lines_in}
use Rattle.std.proofs.lemmas.Bool.Decides.{nat_tests}
use Rattle.cv_cert.proofs.WholeText.{ended, not_ended}
use Rattle.cv_cert.proofs.read.whole.Goals as goal

pub returns-then-is_empty : goal.returns-then-is_empty
returns-then-is_empty c = ended (lines_in c.args.text.now) c.in_ok-sets.rest.now _ c.in_ok-sets.ensures (grind (arith, nat_tests))

pub returns-else-is_empty : goal.returns-else-is_empty
returns-else-is_empty c = not_ended (lines_in c.args.text.now) c.in_ok-sets.rest.now _ c.fault.result c.in_ok-sets.ensures (grind (arith, nat_tests)) c.fault.ensures
