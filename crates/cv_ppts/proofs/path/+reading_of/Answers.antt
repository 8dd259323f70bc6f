use Rattle.std.proofs.Common.{refl}
use Rattle.cv_ppts.proofs.PathLemmas.{reading_of_pre}
use Rattle.cv_ppts.proofs.path.+reading_of.Goals as goal

pub returns-in-Pre : goal.returns-in-Pre
returns-in-Pre t c = rw (c.reading_of.ensures, c.get.ensures, c.in-Pre.is, reading_of_pre) refl
