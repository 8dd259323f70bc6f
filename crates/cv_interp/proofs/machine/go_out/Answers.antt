use Rattle.std.proofs.Common.{ap, refl, sym, subst, ◌∙◌, Some, option_map}
use Rattle.cv_core.specs.declared.program.Form.TheVariants as form
use Rattle.cv_meaning.specs.State.{any_value}
use Rattle.cv_interp.specs.declared.machine.Ended.TheVariants as ended
use Rattle.cv_interp.specs.Good.{IsGood}
use Rattle.cv_interp.specs.Slots.{env_of}
use Rattle.cv_interp.proofs.Going.{fail_good}
use Rattle.cv_interp.proofs.Limited.{are_few}
use Rattle.cv_interp.proofs.Outward.{out_errs, out_good, out_leads}
use Rattle.cv_interp.proofs.machine.go_out.Goals as goal

pub leave-requires-clause-few : goal.leave-requires-clause-few
leave-requires-clause-few c = are_few c.args.core.now.program.now c.args.core.now.running.number c.args.core.now.running.proc.now c.requires.good.limits c.requires.good.active.proc

pub go_back-requires-clause-good : goal.go_back-requires-clause-good
go_back-requires-clause-good c =
    out_good c.args.core.now (record c.args.core.now { store = c.leave.new.s }) c.requires.good refl refl refl c.leave.ensures.vars c.leave.ensures.memory c.leave.ensures.kept

pub returns-in-Err-clause-good : goal.returns-in-Err-clause-good
returns-in-Err-clause-good c =
    subst IsGood (sym c.fail.ensures.core) (fail_good (record c.args.core.now { store = c.leave.new.s }) (Some (ended.Error c.in-Err.kind c.args.core.now.running.number c.args.number))
    (out_good c.args.core.now (record c.args.core.now { store = c.leave.new.s }) c.requires.good refl refl refl c.leave.ensures.vars c.leave.ensures.memory c.leave.ensures.kept))

pub returns-in-Err-clause-led : goal.returns-in-Err-clause-led
returns-in-Err-clause-led c =
    rw (c.fail.ensures.answer, c.fail.ensures.core)
    (out_errs c.args.core.now (record c.args.core.now { store = c.leave.new.s; ended = Some (ended.Error c.in-Err.kind c.args.core.now.running.number c.args.number) })
    (record { line = c.args.number; form = form.Return c.args.e.now }) c.args.e.now c.answer_by-answer.result c.in-Err.kind c.requires.on c.requires.at refl
    (c.answer_by-answer.ensures ∙ ap (λ vs. option_map (any_value (env_of c.args.core.now.running.proc.now vs)) c.args.e.now) c.as_slice.ensures.value) c.in-Err.ensures.err refl c.leave.ensures.output)

pub returns-in-Ok-clause-led : goal.returns-in-Ok-clause-led
returns-in-Ok-clause-led c =
    out_leads c.args.core.now (record c.args.core.now { store = c.leave.new.s }) c.go_back.new.core (record { line = c.args.number; form = form.Return c.args.e.now }) c.args.e.now
    c.answer_by-answer.result c.go_back.result c.requires.on c.requires.at refl
    (c.answer_by-answer.ensures ∙ ap (λ vs. option_map (any_value (env_of c.args.core.now.running.proc.now vs)) c.args.e.now) c.as_slice.ensures.value)
    c.in-Ok.ensures.ok refl refl c.go_back.ensures.turn c.go_back.ensures.stands
