use Rattle.cv_ppts.specs.Keys.{setting}
use Rattle.cv_ppts.proofs.Coded.{contents_there}
use Rattle.cv_ppts.proofs.scope.content_codes.Goals as goal

pub returns : goal.returns
returns c = contents_there (setting c.args.s.now) _ _ _ _ _ _ c.formals_of.ensures c.number_count.ensures c.literal_count.ensures c.behind.ensures c.behind-2.ensures c.behind-3.ensures
