use Rattle.cv_ppts.specs.Keys.{setting}
use Rattle.cv_ppts.proofs.Grown.{empty_here, saturated_least}
use Rattle.cv_ppts.proofs.fixpoint.grown.Goals as goal

pub saturated-requires-clause-table : goal.saturated-requires-clause-table
saturated-requires-clause-table c = empty_here c.args.count c.in_ok-start.start.items c.in_ok-start.ensures

pub returns : goal.returns
returns c = saturated_least (setting c.args.s.now) c.args.count c.in_ok-start.start.items c.in_ok-sets.sets.items c.requires.count c.in_ok-start.ensures c.in_ok-sets.ensures
