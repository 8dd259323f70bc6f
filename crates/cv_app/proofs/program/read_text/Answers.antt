use Rattle.std.proofs.Common.{refl}
use Rattle.cv_app.proofs.program.read_text.Goals as goal

pub returns-in-Err-Fault-clause-read : goal.returns-in-Err-Fault-clause-read
returns-in-Err-Fault-clause-read c = (c.in-Err-Fault.fault, rw c.in-Err-Fault.field-0-is at c.in-Err-Fault.ensures.cause, refl)
