-- What `pre` makes of paths and readings: nothing.
use Rattle.std.proofs.Common.{◌≡◌, ap}
use Rattle.cv_core.specs.declared.program.PtrTerm.{PtrTerm}
use Rattle.cv_core.specs.declared.program.PtrTerm.TheVariants as pointer
use Rattle.cv_core.specs.declared.program.Term.{Term}
use Rattle.cv_core.specs.declared.program.Term.TheVariants as term
use Rattle.cv_core.proofs.Opened.{pre_pointer_is, pre_term_is}
use Rattle.cv_ppts.specs.Paths.{path_of, reading_of}

pub path_of_pre : (i : PtrTerm) → path_of (pointer.Pre i) ≡ path_of i
path_of_pre i = ap path_of (pre_pointer_is i)

pub reading_of_pre : (i : Term) → reading_of (term.Pre i) ≡ reading_of i
reading_of_pre i = ap reading_of (pre_term_is i)
