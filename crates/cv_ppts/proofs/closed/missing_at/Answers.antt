use Rattle.std.proofs.Common.{ap, sym, ◌∙◌}
use Rattle.std.specs.Option.{option_copied}
use Rattle.cv_ppts.specs.Numbers.{codes_of}
use Rattle.cv_ppts.specs.Keys.{setting}
use Rattle.cv_ppts.proofs.Closing.{statement_none, statement_some}
use Rattle.cv_ppts.proofs.closed.missing_at.Goals as goal

pub returns-in-None : goal.returns-in-None
returns-in-None c = statement_none (setting c.args.s.now) (codes_of c.args.sets.now) c.args.statement (sym c.statement_at.ensures ∙ ap option_copied c.in-None.is)

pub returns-in-Some : goal.returns-in-Some
returns-in-Some c =
    statement_some (setting c.args.s.now) (codes_of c.args.sets.now) c.args.statement c.new_target.result c.in-Some.x.now c.missing_in_form.result
    (sym c.statement_at.ensures ∙ ap option_copied c.in-Some.is) c.new_target.ensures c.missing_in_form.ensures
