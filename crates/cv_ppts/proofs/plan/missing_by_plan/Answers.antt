use Rattle.std.proofs.Common.{ap, sym, ◌∙◌}
use Rattle.std.specs.Option.{option_copied}
use Rattle.cv_ppts.specs.Keys.{setting}
use Rattle.cv_ppts.specs.Numbers.{codes_of}
use Rattle.cv_ppts.proofs.Closing.{statement_none, statement_some}
use Rattle.cv_ppts.proofs.plan.missing_by_plan.Goals as goal

pub missing_for-requires : goal.missing_for-requires
missing_for-requires c =
    record { rule = c.rule_at.ensures ∙ c.requires.rule c.args.statement c.in-Some.x.now (sym c.statement_at.ensures ∙ ap option_copied c.in-Some.is) }

pub returns-in-None : goal.returns-in-None
returns-in-None c = statement_none (setting c.args.s.now) (codes_of c.args.sets.now) c.args.statement (sym c.statement_at.ensures ∙ ap option_copied c.in-None.is)

pub returns-in-Some : goal.returns-in-Some
returns-in-Some c =
    statement_some (setting c.args.s.now) (codes_of c.args.sets.now) c.args.statement c.target_at.result c.in-Some.x.now c.missing_for.result
    (sym c.statement_at.ensures ∙ ap option_copied c.in-Some.is)
    (c.target_at.ensures ∙ c.requires.target c.args.statement c.in-Some.x.now (sym c.statement_at.ensures ∙ ap option_copied c.in-Some.is)) c.missing_for.ensures
