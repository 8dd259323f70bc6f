use Rattle.std.proofs.Common.{ℕ, length, subst}
use Rattle.cv_points.specs.Holders.{pointer_locals}
use Rattle.std.specs.Option.{MatchOption}
use Rattle.cv_ppts.specs.Numbers.{codes_of}
use Rattle.cv_ppts.specs.Lacking.{Lacks}
use Rattle.cv_ppts.specs.Plain.{AreUnknown, Sets}
use Rattle.cv_ppts.specs.declared.sets.Missing.{Missing}
use Rattle.cv_ppts.proofs.closed.missing_of_locals.Goals as goal

pub returns : goal.returns
returns c =
    subst (λ (n : ℕ). MatchOption c.missing_unknown.result (AreUnknown (codes_of c.args.sets.now) n (length (pointer_locals c.args.s.now.f.now))) (λ (m : Missing). Lacks (codes_of c.args.sets.now) (λ (R : Sets). AreUnknown R n (length (pointer_locals c.args.s.now.f.now))) m.to m.code))
    c.formals_of.ensures
    (subst (λ (n : ℕ). MatchOption c.missing_unknown.result (AreUnknown (codes_of c.args.sets.now) c.formals_of.result n) (λ (m : Missing). Lacks (codes_of c.args.sets.now) (λ (R : Sets). AreUnknown R c.formals_of.result n) m.to m.code))
    c.locals_count.ensures c.missing_unknown.ensures)
