use Rattle.cv_interp.proofs.Bound.{are_variables}
use Rattle.cv_interp.proofs.begin.first_room.Goals as goal

pub furnished-requires-clause-variables : goal.furnished-requires-clause-variables
furnished-requires-clause-variables c = are_variables c.args.main.now
