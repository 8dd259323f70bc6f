use Rattle.cv_app.proofs.FileLemmas.{file_limit}
use Rattle.cv_app.proofs.program.tested.Goals as goal

pub returns-in-Err-clause-faults : goal.returns-in-Err-clause-faults
returns-in-Err-clause-faults c = file_limit c.args.program c.in-Err.limit c.in-Err.ensures.passed
