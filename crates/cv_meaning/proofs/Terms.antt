-- The value of pre(t).
use Rattle.std.proofs.Common.{◌≡◌, ap}
use Rattle.cv_core.specs.declared.program.PtrTerm.{PtrTerm}
use Rattle.cv_core.specs.declared.program.PtrTerm.TheVariants as pointer
use Rattle.cv_core.specs.declared.program.Term.{Term}
use Rattle.cv_core.specs.declared.program.Term.TheVariants as term
use Rattle.cv_core.proofs.Opened.{pre_pointer_is, pre_term_is}
use Rattle.cv_meaning.specs.Memory.{Memory}
use Rattle.cv_meaning.specs.Contract.{Scene, pointer_value, term_value}

pub pointer_value_pre : (s : Scene) (m : Memory) (i : PtrTerm) → pointer_value s m (pointer.Pre i) ≡ pointer_value s s.entry i
pointer_value_pre s m i = ap (pointer_value s m) (pre_pointer_is i)

pub term_value_pre : (s : Scene) (m : Memory) (i : Term) → term_value s m (term.Pre i) ≡ term_value s s.entry i
term_value_pre s m i = ap (term_value s m) (pre_term_is i)
