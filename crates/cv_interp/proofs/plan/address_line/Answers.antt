use Rattle.std.proofs.Common.{refl}
use Rattle.cv_interp.proofs.plan.address_line.Goals as goal

pub returns : goal.returns
returns c = rw (c.slot_at.ensures, c.nowhere.ensures, c.nowhere-2.ensures, c.home_of.ensures, c.new.ensures, c.as_slice.ensures, c.as_slice-2.ensures) refl
