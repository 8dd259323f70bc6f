-- The names in pre(t) are those in t.
use Rattle.std.proofs.Common.{◌≡◌, ap}
use Rattle.cv_core.specs.Named.{fails_in_pointer, fails_in_term}
use Rattle.cv_core.specs.declared.program.Program.{Program}
use Rattle.cv_core.specs.declared.program.Proc.{Proc}
use Rattle.cv_core.specs.declared.program.PtrTerm.{PtrTerm}
use Rattle.cv_core.specs.declared.program.PtrTerm.TheVariants as pointer
use Rattle.cv_core.specs.declared.program.Term.{Term}
use Rattle.cv_core.specs.declared.program.Term.TheVariants as term
use Rattle.cv_core.specs.declared.shape.named.NameFault.{NameFault}
use Rattle.cv_core.proofs.Opened.{pre_pointer_is, pre_term_is}

pub pointer_pre : (P : Program) (f : Proc) (w : NameFault) (i : PtrTerm) → fails_in_pointer P f w (pointer.Pre i) ≡ fails_in_pointer P f w i
pointer_pre P f w i = ap (fails_in_pointer P f w) (pre_pointer_is i)

pub term_pre : (P : Program) (f : Proc) (w : NameFault) (i : Term) → fails_in_term P f w (term.Pre i) ≡ fails_in_term P f w i
term_pre P f w i = ap (fails_in_term P f w) (pre_term_is i)
