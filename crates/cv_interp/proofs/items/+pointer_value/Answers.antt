use Rattle.std.proofs.Common.{refl}
use Rattle.cv_meaning.proofs.Terms.{pointer_value_pre}
use Rattle.cv_interp.proofs.items.+pointer_value.Goals as goal

pub returns-in-Name : goal.returns-in-Name
returns-in-Name t c = rw (c.as_pointer.ensures, c.named.ensures, c.as_slice.ensures, c.in-Name.is) refl

pub returns-in-Star : goal.returns-in-Star
returns-in-Star t c = rw (c.as_pointer-in-Star.ensures, c.starred.ensures, c.as_slice-in-Star.ensures, c.in-Star.is) refl

pub returns-in-Pre : goal.returns-in-Pre
returns-in-Pre t c = rw (c.pointer_value.ensures, c.get.ensures, c.in-Pre.is, pointer_value_pre) refl
