use Rattle.std.proofs.Common.{ℕ, subst}
use Rattle.std.specs.Option.{MatchOption}
use Rattle.cv_ppts.specs.Numbers.{codes_of}
use Rattle.cv_ppts.specs.Lacking.{Lacks}
use Rattle.cv_ppts.specs.Plain.{AreCoded, Sets}
use Rattle.cv_ppts.specs.declared.sets.Missing.{Missing}
use Rattle.cv_ppts.proofs.closed.missing_of_formals.Goals as goal

pub returns : goal.returns
returns c =
    subst (λ (n : ℕ). MatchOption c.missing_coded.result (AreCoded (codes_of c.args.sets.now) 0 c.args.s.now.codes.now n) (λ (m : Missing). Lacks (codes_of c.args.sets.now) (λ (R : Sets). AreCoded R 0 c.args.s.now.codes.now n) m.to m.code))
    c.formals_of.ensures c.missing_coded.ensures
