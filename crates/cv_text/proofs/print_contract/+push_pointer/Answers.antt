use Rattle.std.proofs.Common.{◌≡◌, ◌++◌, append_assoc, refl}
use Rattle.cv_text.proofs.Printing.{pointer_text_pre}
use Rattle.cv_text.proofs.print_contract.+push_pointer.Goals as goal

pub returns-in_ok-push-in-Pre : goal.returns-in_ok-push-in-Pre
returns-in_ok-push-in-Pre t c = rw (c.in-Pre.is, pointer_text_pre, c.in_ok-push-in-Pre.ensures.items, c.in_ok-push_pointer-in-Pre.ensures, c.get.ensures, c.in_ok-extend_from_slice-in-Pre.ensures.items) (simp append_assoc)
