use Rattle.std.proofs.Common.{ap, refl, ◌∙◌, ◌<◌, ◌+◌, ◌++◌, ◌∷◌, [], length, Some, arith}
use Rattle.cv_core.specs.Names.{stmts_of}
use Rattle.cv_interp.specs.declared.machine.Ended.TheVariants as ended
use Rattle.cv_interp.proofs.Going.{at_small}
use Rattle.cv_interp.proofs.Limited.{inside}
use Rattle.cv_interp.proofs.Onward.{IsCalling, caller, as_enters, as_errs, as_goes, call_stmt, called_turn, entered_good, entered_leads, errs_leads, into_is, on_good, on_leads}
use Rattle.cv_interp.proofs.machine.go_into.Goals as goal

pub call-requires-clause-slot : goal.call-requires-clause-slot
call-requires-clause-slot c = into_is c.args.core.now (call_stmt c.args.number c.args.into.now c.args.f.now c.args.args.now) c.args.into.now c.args.f.now c.args.args.now c.requires.good c.requires.at refl

pub call-requires-clause-place : goal.call-requires-clause-place
call-requires-clause-place c =
    let lt : c.args.core.now.at < length (stmts_of c.args.core.now.running.proc.now.body) = inside (stmts_of c.args.core.now.running.proc.now.body) c.args.core.now.at (call_stmt c.args.number c.args.into.now c.args.f.now c.args.args.now) c.requires.at in
    omega arith

pub overflow_add-core : goal.overflow_add-core
overflow_add-core c =
    let small : c.args.core.now.at < 1000 =
    at_small c.args.core.now.program.now c.args.core.now.running.number c.args.core.now.at c.args.core.now.running.proc.now (call_stmt c.args.number c.args.into.now c.args.f.now c.args.args.now) c.requires.good.limits c.requires.good.active.proc c.requires.at in
    omega arith

pub returns-in-Errs-clause-led : goal.returns-in-Errs-clause-led
returns-in-Errs-clause-led c =
    let calling : IsCalling c.args.core.now (call_stmt c.args.number c.args.into.now c.args.f.now c.args.args.now) c.args.into.now c.args.f.now c.args.args.now =
    record { good = c.requires.good; on = c.requires.on; at = c.requires.at; form = refl; small = c.in_ok-kind.ensures.int } in
    let errs = (as_errs c.args.core.now.running c.args.core.now.at (called_turn c.args.core.now c.args.into.now c.args.f.now c.args.args.now) c.args.core.now.store c.call.new.s c.in_ok-kind.field-0 c.in-Errs.kind c.in-Errs.is c.in_ok-kind.ensures.ok) in
    rw (c.fail.ensures.answer, c.fail.ensures.core)
    (errs_leads c.args.core.now (record c.args.core.now { waiting = c.reserve.new.self; store = c.call.new.s; ended = Some (ended.Error c.in-Errs.kind c.args.core.now.running.number c.args.number) }) (call_stmt c.args.number c.args.into.now c.args.f.now c.args.args.now) c.args.into.now c.args.f.now c.args.args.now c.in-Errs.kind calling errs.0 refl errs.1.output)

pub returns-in-Goes-clause-good : goal.returns-in-Goes-clause-good
returns-in-Goes-clause-good c =
    let calling : IsCalling c.args.core.now (call_stmt c.args.number c.args.into.now c.args.f.now c.args.args.now) c.args.into.now c.args.f.now c.args.args.now =
    record { good = c.requires.good; on = c.requires.on; at = c.requires.at; form = refl; small = c.in_ok-kind.ensures.int } in
    let goes = (as_goes c.args.core.now.running c.args.core.now.at (called_turn c.args.core.now c.args.into.now c.args.f.now c.args.args.now) c.args.core.now.store c.call.new.s c.in_ok-kind.field-0 c.in-Goes.is c.in_ok-kind.ensures.ok) in
    on_good c.args.core.now (record c.args.core.now { waiting = c.reserve.new.self; at = c.args.core.now.at + 1; store = c.call.new.s }) (call_stmt c.args.number c.args.into.now c.args.f.now c.args.args.now) c.args.into.now c.args.f.now c.args.args.now calling goes.0 goes.1 refl refl c.reserve.ensures.items

pub returns-in-Goes-clause-led : goal.returns-in-Goes-clause-led
returns-in-Goes-clause-led c =
    let calling : IsCalling c.args.core.now (call_stmt c.args.number c.args.into.now c.args.f.now c.args.args.now) c.args.into.now c.args.f.now c.args.args.now =
    record { good = c.requires.good; on = c.requires.on; at = c.requires.at; form = refl; small = c.in_ok-kind.ensures.int } in
    let goes = (as_goes c.args.core.now.running c.args.core.now.at (called_turn c.args.core.now c.args.into.now c.args.f.now c.args.args.now) c.args.core.now.store c.call.new.s c.in_ok-kind.field-0 c.in-Goes.is c.in_ok-kind.ensures.ok) in
    on_leads c.args.core.now (record c.args.core.now { waiting = c.reserve.new.self; at = c.args.core.now.at + 1; store = c.call.new.s }) (call_stmt c.args.number c.args.into.now c.args.f.now c.args.args.now) c.args.into.now c.args.f.now c.args.args.now calling goes.0 refl refl c.reserve.ensures.items refl c.requires.on

pub returns-in-Enters-clause-good : goal.returns-in-Enters-clause-good
returns-in-Enters-clause-good c =
    let calling : IsCalling c.args.core.now (call_stmt c.args.number c.args.into.now c.args.f.now c.args.args.now) c.args.into.now c.args.f.now c.args.args.now =
    record { good = c.requires.good; on = c.requires.on; at = c.requires.at; form = refl; small = c.in_ok-kind.ensures.int } in
    let enters = (as_enters c.args.core.now.running c.args.core.now.at (called_turn c.args.core.now c.args.into.now c.args.f.now c.args.args.now) c.args.core.now.store c.call.new.s c.in_ok-kind.field-0 c.in-Enters.entered c.in-Enters.is c.in_ok-kind.ensures.ok) in
    entered_good c.args.core.now c.enter.new.core c.args.number c.args.into.now c.args.f.now c.args.args.now c.in-Enters.entered c.call.new.s calling enters c.enter.ensures.rest.1 (ap (λ p. p.now) c.enter.ensures.rest.0) c.enter.ensures.running
    (c.enter.ensures.waiting ∙ ap (λ ws. ws ++ caller c.args.core.now c.in-Enters.entered ∷ []) c.reserve.ensures.items)

pub returns-in-Enters-clause-led : goal.returns-in-Enters-clause-led
returns-in-Enters-clause-led c =
    let calling : IsCalling c.args.core.now (call_stmt c.args.number c.args.into.now c.args.f.now c.args.args.now) c.args.into.now c.args.f.now c.args.args.now =
    record { good = c.requires.good; on = c.requires.on; at = c.requires.at; form = refl; small = c.in_ok-kind.ensures.int } in
    let enters = (as_enters c.args.core.now.running c.args.core.now.at (called_turn c.args.core.now c.args.into.now c.args.f.now c.args.args.now) c.args.core.now.store c.call.new.s c.in_ok-kind.field-0 c.in-Enters.entered c.in-Enters.is c.in_ok-kind.ensures.ok) in
    entered_leads c.args.core.now c.enter.new.core c.args.number c.args.into.now c.args.f.now c.args.args.now c.in-Enters.entered c.call.new.s calling enters c.enter.ensures.rest.1 (ap (λ p. p.now) c.enter.ensures.rest.0) c.enter.ensures.running
    (c.enter.ensures.waiting ∙ ap (λ ws. ws ++ caller c.args.core.now c.in-Enters.entered ∷ []) c.reserve.ensures.items) c.enter.ensures.at (c.enter.ensures.rest.2 ∙ c.requires.on)
