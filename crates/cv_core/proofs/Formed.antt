-- The form of pre(t).
use Rattle.std.proofs.Common.{◌≡◌, ◌&&◌, ap}
use Rattle.cv_core.specs.ContractForm.{allows_pre, is_plain_formal, pointer_formed, term_formed}
use Rattle.cv_core.specs.declared.program.Program.{Program}
use Rattle.cv_core.specs.declared.program.Proc.{Proc}
use Rattle.cv_core.specs.declared.program.PtrTerm.{PtrTerm}
use Rattle.cv_core.specs.declared.program.PtrTerm.TheVariants as pointer
use Rattle.cv_core.specs.declared.program.Term.{Term}
use Rattle.cv_core.specs.declared.program.Term.TheVariants as term
use Rattle.cv_core.specs.declared.shape.contracts.Side.{Side}
use Rattle.cv_core.specs.declared.shape.contracts.Side.TheVariants as side
use Rattle.cv_core.proofs.Opened.{pre_pointer_is, pre_term_is}

pub pointer_pre : (P : Program) (f : Proc) (d : Side) (i : PtrTerm) → pointer_formed P f d (pointer.Pre i) ≡ (allows_pre d && pointer_formed P f side.Entry i)
pointer_pre P f d i = ap (pointer_formed P f d) (pre_pointer_is i)

pub term_pre : (P : Program) (f : Proc) (d : Side) (i : Term) → term_formed P f d (term.Pre i) ≡ (allows_pre d && term_formed P f side.Entry i)
term_pre P f d i = ap (term_formed P f d) (pre_term_is i)

pub plain_pre : (f : Proc) (i : PtrTerm) → is_plain_formal f (pointer.Pre i) ≡ is_plain_formal f i
plain_pre f i = ap (is_plain_formal f) (pre_pointer_is i)
