use Rattle.std.proofs.Common.{arith}
use Rattle.cv_points.proofs.Grown.{site_none, site_some}
use Rattle.cv_points.proofs.growth.add.Goals as goal

pub returns-in-None : goal.returns-in-None
returns-in-None c = site_none c.args.sets.now.items c.args.to c.args.site c.as_slice.result.now c.in_ok-grown_at.field-0 c.as_slice.ensures c.in-None.is c.in_ok-grown_at.ensures

pub returns-in-Some : goal.returns-in-Some
returns-in-Some c = site_some c.args.sets.now.items c.args.to c.args.site c.as_slice.result.now c.in-Some.set c.in_ok-grown_at.field-0 c.as_slice.ensures (omega arith) c.in-Some.is c.in_ok-grown_at.ensures
