use Rattle.std.proofs.Common.{ap, sym, ◌∙◌}
use Rattle.std.specs.Option.{option_copied}
use Rattle.cv_ppts.specs.Numbers.{codes_of}
use Rattle.cv_ppts.specs.Keys.{setting}
use Rattle.cv_ppts.specs.Setting.{callee}
use Rattle.cv_ppts.proofs.Formals.{procedure_as, procedure_none}
use Rattle.cv_ppts.proofs.calls.missing_in_procedure.Goals as goal

pub returns-in-None : goal.returns-in-None
returns-in-None c = procedure_none (setting c.args.s.now) (codes_of c.args.sets.now) c.args.target c.args.into c.args.args.now (callee c.args.s.now.p.now c.args.name.now) (sym c.callee.ensures ∙ ap option_copied c.in-None.is)

pub returns-in-Some : goal.returns-in-Some
returns-in-Some c =
    procedure_as (setting c.args.s.now) (codes_of c.args.sets.now) c.args.target c.args.into c.args.args.now (callee c.args.s.now.p.now c.args.name.now) _ c.missing_in_callee.result (sym c.callee.ensures ∙ ap option_copied c.in-Some.is) c.missing_in_callee.ensures
