use Rattle.std.proofs.Common.{◌≡◌, ◌++◌, drop}
use Rattle.std.specs.List.{flat_map}
use Rattle.cv_cert.specs.Writing.{set_text}
use Rattle.cv_cert.proofs.write.push_sets.Given as goal

abbrev pub invariant-loop-set : goal.invariant-loop-set
invariant-loop-set l = l.out.items ++ flat_map set_text (drop l.set-index l.sets) ≡ l.fn.out.items ++ flat_map set_text l.fn.sets
