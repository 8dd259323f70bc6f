-- The pointer that pre(t) is.
use Rattle.std.proofs.Common.{◌≡◌, ap}
use Rattle.std.specs.Option.{option_map}
use Rattle.cv_core.specs.declared.program.Term.{Term}
use Rattle.cv_core.specs.declared.program.Term.TheVariants as terms
use Rattle.cv_core.specs.Terms.{pre_pointer}
use Rattle.cv_core.proofs.Opened.{pre_term_is}
use Rattle.cv_text.specs.ContractReader.{pointer_of}

pub pointer_of_pre : (t : Term) → pointer_of (terms.Pre t) ≡ option_map pre_pointer (pointer_of t)
pointer_of_pre t = ap pointer_of (pre_term_is t)

pub ruleset alone = (pointer_of_pre)
