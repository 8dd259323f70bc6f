use Rattle.std.proofs.Common.{refl}
use Rattle.cv_interp.proofs.items.item_object.Goals as goal

pub returns-in-Star : goal.returns-in-Star
returns-in-Star c = rw (c.object_of-in-Star.ensures, c.as_pointer.ensures, c.named.ensures, c.as_slice.ensures, c.in-Star.is) refl

pub returns-in-None : goal.returns-in-None
returns-in-None c = rw c.in-Name.is (rw (c.as_slice-in-Name.ensures, c.as_slice-in-Name-2.ensures) at c.in-None.ensures.place)
