use Rattle.std.proofs.Common.{ap, refl, ◌∙◌, ◌<◌, Some, arith}
use Rattle.cv_meaning.specs.Run.{as_goes}
use Rattle.cv_interp.specs.declared.machine.Ended.TheVariants as ended
use Rattle.cv_interp.specs.declared.store.Store.{Store}
use Rattle.cv_interp.specs.Seen.{frame, state}
use Rattle.cv_interp.proofs.Going.{at_small, fail_leads, go_good, go_leads, go_ready, go_small, plain_turn}
use Rattle.cv_interp.proofs.machine.go.Goals as goal

pub step-requires-clause-small : goal.step-requires-clause-small
step-requires-clause-small c =
    let small : c.args.core.now.at < 1000 =
    at_small c.args.core.now.program.now c.args.core.now.running.number c.args.core.now.at c.args.core.now.running.proc.now c.args.stmt.now c.requires.good.limits c.requires.good.active.proc c.requires.at in
    omega arith

pub step-requires-clause-room : goal.step-requires-clause-room
step-requires-clause-room c = go_small c.args.core.now c.requires.good

pub step-requires-clause-ready : goal.step-requires-clause-ready
step-requires-clause-ready c = go_ready c.args.core.now c.args.stmt.now c.requires.good c.requires.at

pub returns-in-Err-clause-led : goal.returns-in-Err-clause-led
returns-in-Err-clause-led c =
    rw (c.fail.ensures.answer, c.fail.ensures.core)
    (fail_leads c.args.core.now (record c.args.core.now { store = c.step.new.s; ended = Some (ended.Error c.in-Err.kind c.args.core.now.running.number c.args.stmt.now.line) }) c.args.stmt.now c.in-Err.kind
    c.requires.on c.requires.at
    (plain_turn c.args.core.now.program.now (frame c.args.core.now.running) c.args.core.now.at c.args.stmt.now.form (state c.args.core.now.running.proc.now c.args.core.now.store) c.requires.plain ∙ ap as_goes c.in-Err.ensures.0)
    refl (ap (λ (s : Store). s.output.items) c.in-Err.ensures.1))

pub returns-in-Ok-clause-good : goal.returns-in-Ok-clause-good
returns-in-Ok-clause-good c = go_good c.args.core.now c.args.stmt.now c.in-Ok.at c.step.new.s c.requires.good c.requires.at c.in-Ok.ensures.0 c.in-Ok.ensures.1

pub returns-in-Ok-clause-led : goal.returns-in-Ok-clause-led
returns-in-Ok-clause-led c = go_leads c.args.core.now c.args.stmt.now c.in-Ok.at c.step.new.s c.requires.on c.requires.at c.requires.plain c.in-Ok.ensures.0
