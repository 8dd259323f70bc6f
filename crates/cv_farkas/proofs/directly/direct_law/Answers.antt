use Rattle.cv_farkas.specs.Sound.{direct_nonneg}
use Rattle.cv_farkas.proofs.directly.direct_law.Goals as goal

pub returns : goal.returns
returns c = λ h at a. direct_nonneg at c.args.hyps.now c.args.goal.now h a
