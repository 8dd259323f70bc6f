use Rattle.std.proofs.Common.{subst}
use Rattle.cv_ppts.specs.Numbers.{codes_of}
use Rattle.cv_ppts.specs.Keys.{setting}
use Rattle.cv_ppts.specs.Plain.{MaybeHolds}
use Rattle.cv_ppts.proofs.Closing.{form_first, form_second}
use Rattle.cv_ppts.proofs.Planning.{rule_as}
use Rattle.cv_ppts.proofs.closed.missing_for.Goals as goal

pub returns-in-Some : goal.returns-in-Some
returns-in-Some c =
    form_first (setting c.args.s.now) (codes_of c.args.sets.now) c.args.target c.args.form.now _ _
    (rule_as (setting c.args.s.now) (codes_of c.args.sets.now) c.args.rule _ c.in-Some.missing.to c.in-Some.missing.code c.requires.rule c.in-Some.ensures)

pub returns-in-None : goal.returns-in-None
returns-in-None c =
    form_second (setting c.args.s.now) (codes_of c.args.sets.now) c.args.target c.args.form.now c.missing_call.result
    (subst (MaybeHolds (setting c.args.s.now) (codes_of c.args.sets.now)) c.requires.rule c.in-None.ensures) c.missing_call.ensures
