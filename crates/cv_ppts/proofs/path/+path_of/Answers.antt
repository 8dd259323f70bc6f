use Rattle.std.proofs.Common.{refl}
use Rattle.cv_ppts.proofs.PathLemmas.{path_of_pre}
use Rattle.cv_ppts.proofs.path.+path_of.Goals as goal

pub returns-in-Pre : goal.returns-in-Pre
returns-in-Pre t c = rw (c.path_of.ensures, c.get.ensures, c.in-Pre.is, path_of_pre) refl
