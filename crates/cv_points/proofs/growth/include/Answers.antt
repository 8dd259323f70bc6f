use Rattle.cv_points.proofs.Grown.{set_none, set_some}
use Rattle.cv_points.proofs.growth.include.Goals as goal

pub returns-in-None : goal.returns-in-None
returns-in-None c = set_none c.args.sets.now.items c.args.from c.args.to c.set_in.result.now c.in_ok-grown_at.field-0 c.set_in.ensures c.in-None.is c.in_ok-grown_at.ensures

pub returns-in-Some : goal.returns-in-Some
returns-in-Some c = set_some c.args.sets.now.items c.args.from c.args.to c.set_in.result.now c.in-Some.set c.in_ok-grown_at.field-0 c.set_in.ensures c.in-Some.is c.in_ok-grown_at.ensures
