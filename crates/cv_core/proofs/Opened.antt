-- What a match of the code on a recursive term tells.
use Rattle.std.proofs.Common.{◌≡◌, refl, sym, ap, ◌∙◌}
use Rattle.cv_core.specs.declared.program.PtrTerm.{PtrTerm, out-PtrTerm, roll-PtrTerm, roll-out-PtrTerm, end_of-PtrTerm, more_of-PtrTerm}
use Rattle.cv_core.specs.declared.program.PtrTerm.TheOpen as open_pointer
use Rattle.cv_core.specs.declared.program.PtrTerm.TheVariants as pointer
use Rattle.cv_core.specs.declared.program.PtrTerm.TheBlock.{hidden-the_row-PtrTerm-0, shape-the_row-PtrTerm-0}
use Rattle.cv_core.specs.declared.program.Term.{Term, out-Term, roll-Term, roll-out-Term}
use Rattle.cv_core.specs.declared.program.Term.TheOpen as open_term
use Rattle.cv_core.specs.declared.program.Term.TheBlock.{hidden-the_row-Term-0, shape-the_row-Term-0}
use Rattle.cv_core.specs.declared.program.Term.TheVariants as term
use Rattle.cv_core.specs.Terms.{pre_pointer, pre_term}
use denote.Hole.Carrier.{roll, out, hidden, shown}

pub is_pre_pointer : (t i : PtrTerm) → out-PtrTerm t ≡ open_pointer.Pre i → t ≡ pre_pointer i
unfolding roll-PtrTerm roll hidden-the_row-PtrTerm-0 shape-the_row-PtrTerm-0 hidden
is_pre_pointer t i h = sym (roll-out-PtrTerm t) ∙ ap roll-PtrTerm h

pub is_pre_term : (t i : Term) → out-Term t ≡ open_term.Pre i → t ≡ pre_term i
unfolding roll-Term roll hidden-the_row-Term-0 shape-the_row-Term-0 hidden
is_pre_term t i h = sym (roll-out-Term t) ∙ ap roll-Term h

-- what `Pre` makes
pub pre_pointer_is : (i : PtrTerm) → pointer.Pre i ≡ pre_pointer i
unfolding hidden-the_row-PtrTerm-0 shape-the_row-PtrTerm-0 hidden
pre_pointer_is i = refl

pub pre_term_is : (i : Term) → term.Pre i ≡ pre_term i
unfolding hidden-the_row-Term-0 shape-the_row-Term-0 hidden
pre_term_is i = refl

pub ruleset opened = (pre_pointer_is, pre_term_is)
