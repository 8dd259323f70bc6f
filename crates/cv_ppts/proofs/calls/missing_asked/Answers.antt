use Rattle.std.proofs.Common.{refl, sym, ◌∙◌}
use Rattle.cv_ppts.specs.Numbers.{codes_of}
use Rattle.cv_ppts.specs.Targets.{assigned}
use Rattle.cv_ppts.proofs.Called.{asked_all, asked_first, asked_second}
use Rattle.cv_ppts.proofs.calls.missing_asked.Goals as goal

pub returns-in-Some : goal.returns-in-Some
returns-in-Some c = asked_first (codes_of c.args.sets.now) c.args.target c.args.fresh c.args.code c.args.place _ (assigned c.args.target c.args.fresh c.args.code) _ refl c.in-Some.ensures

pub returns-then-is_lost : goal.returns-then-is_lost
returns-then-is_lost c =
    asked_second (codes_of c.args.sets.now) c.args.target c.args.fresh c.args.code c.args.place (assigned c.args.target c.args.fresh c.args.code) _ refl c.in-None.ensures (sym c.is_lost.ensures ∙ c.if-is_lost.true) c.missing_lost.ensures

pub returns-else-is_lost : goal.returns-else-is_lost
returns-else-is_lost c = asked_all (codes_of c.args.sets.now) c.args.target c.args.fresh c.args.code c.args.place (assigned c.args.target c.args.fresh c.args.code) refl c.in-None.ensures (sym c.is_lost.ensures ∙ c.if-is_lost.false)
