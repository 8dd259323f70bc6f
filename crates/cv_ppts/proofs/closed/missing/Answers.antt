use Rattle.cv_ppts.specs.Numbers.{codes_of}
use Rattle.cv_ppts.specs.Keys.{setting}
use Rattle.cv_ppts.proofs.Closing.{closed_first, closed_second}
use Rattle.cv_ppts.proofs.closed.missing.Goals as goal

pub returns-in-Some : goal.returns-in-Some
returns-in-Some c = closed_first (setting c.args.s.now) (codes_of c.args.sets.now) _ _ c.in-Some.ensures

pub returns-in-None : goal.returns-in-None
returns-in-None c = closed_second (setting c.args.s.now) (codes_of c.args.sets.now) c.missing_in_body.result c.in-None.ensures c.missing_in_body.ensures
