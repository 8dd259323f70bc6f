use Rattle.std.proofs.Common.{◌-◌, length}
use Rattle.cv_ppts.specs.Keys.{keys, setting}
use Rattle.cv_ppts.specs.declared.scope.Keys.TheVariants as of
use Rattle.cv_ppts.proofs.scope.+global_class.Given as goal

abbrev pub decreases-global_class : goal.decreases-global_class
decreases-global_class l = length (keys (setting l.s.now) of.Listed) - l.place
