use Rattle.std.proofs.Common.{◌≡◌, length}
use Rattle.cv_ppts.specs.Keys.{setting}
use Rattle.cv_ppts.specs.Setting.{AreContents}
use Rattle.cv_ppts.proofs.places.all_contents.Given as goal

abbrev pub invariant-loop-target : goal.invariant-loop-target
invariant-loop-target l = (length l.contents.items ≡ l.target) × AreContents (setting l.s) l.contents.items
