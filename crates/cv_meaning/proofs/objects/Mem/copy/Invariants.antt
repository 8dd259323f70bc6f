use Rattle.std.proofs.Common.{◌≡◌, take}
use Rattle.cv_meaning.proofs.objects.Mem.copy.Given as goal

abbrev pub invariant-loop-x : goal.invariant-loop-x
invariant-loop-x l = l.objects.items ≡ take l.x-index l.x-items
