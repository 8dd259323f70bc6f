use Rattle.cv_ppts.proofs.Coded.{counted_literals}
use Rattle.cv_ppts.proofs.scope.count_of_literals.Goals as goal

pub returns : goal.returns
returns c = counted_literals _ _ _ c.number_count.ensures c.bare_scope.ensures
