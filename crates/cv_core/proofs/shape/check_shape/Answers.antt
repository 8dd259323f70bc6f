use Rattle.std.proofs.Common.{◌∙◌, sym}
use Rattle.cv_core.specs.Shape.{faults}
use Rattle.cv_core.specs.WellFormed.{well_formed_sound}
use Rattle.cv_core.proofs.Firsts.{none_first}
use Rattle.cv_core.proofs.shape.check_shape.Goals as goal

pub returns-in-None-clause-well_formed : goal.returns-in-None-clause-well_formed
returns-in-None-clause-well_formed c = none_first (faults c.args.p.now) (sym c.in_ok-first.ensures ∙ c.in-None.is)

pub returns-in-None-clause-sound : goal.returns-in-None-clause-sound
returns-in-None-clause-sound c = well_formed_sound c.args.p.now (none_first (faults c.args.p.now) (sym c.in_ok-first.ensures ∙ c.in-None.is))
