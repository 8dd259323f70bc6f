use Rattle.std.proofs.Common.{rules, ◌≡◌, ◌+◌, ◌<◌, ap, refl, [], map, Some, w32, to_z, of_z, arith}
use Rattle.cv_interp.specs.declared.machine.Ended.TheVariants as ended
use Rattle.cv_interp.specs.Machine.{answer_of}
use Rattle.cv_interp.specs.Stack.{stack_of, waiting_level}
use Rattle.cv_interp.specs.Seen.{frame}
use Rattle.cv_interp.proofs.Behind.{back_good, back_plain, back_room, back_stands, back_turn, ends_behind, popped}
use Rattle.cv_interp.proofs.Going.{at_small}
use Rattle.cv_interp.proofs.Planned.{into_slot, line_there}
use Rattle.cv_interp.proofs.machine.go_back.Goals as goal

pub give_at-requires-clause-slot : goal.give_at-requires-clause-slot
give_at-requires-clause-slot c =
    (back_plain c.args.core.now c.in-Some.waiting c.requires.good (popped c.args.core.now c.pop.new.self.items c.in-Some.waiting c.requires.good c.in-Some.ensures.items).1).1

pub give_at-requires-clause-room : goal.give_at-requires-clause-room
give_at-requires-clause-room c =
    back_room c.args.core.now c.in-Some.waiting _ c.requires.good (popped c.args.core.now c.pop.new.self.items c.in-Some.waiting c.requires.good c.in-Some.ensures.items).1 refl

pub overflow_add-core : goal.overflow_add-core
overflow_add-core c =
    let w = (popped c.args.core.now c.pop.new.self.items c.in-Some.waiting c.requires.good c.in-Some.ensures.items).1 in
    let small : c.in-Some.waiting.at < 1000 =
    at_small c.args.core.now.program.now c.in-Some.waiting.activation.number c.in-Some.waiting.at c.in-Some.waiting.activation.proc.now w.call.stmt c.requires.good.limits w.active.proc w.call.there in
    omega arith

pub returns-in-None-clause-stands : goal.returns-in-None-clause-stands
returns-in-None-clause-stands c =
    let none : c.args.core.now.waiting.items ≡ [] = grind arith in
    let done : Some (ended.Returned (to_z w32 (of_z w32 c.answer_of.result))) ≡ Some (ended.Returned (answer_of c.args.answer)) = search rules in
    ends_behind (stack_of c.args.core.now) _ c.args.answer (ap (map waiting_level) none) done refl

pub returns-in-Some-clause-good : goal.returns-in-Some-clause-good
returns-in-Some-clause-good c =
    let (below, w) = popped c.args.core.now c.pop.new.self.items c.in-Some.waiting c.requires.good c.in-Some.ensures.items in
    back_good c.args.core.now _ c.in-Some.waiting c.args.answer c.requires.good w below c.requires.near refl refl c.give_at.ensures.room
    (c.give_at.ensures.state (frame c.in-Some.waiting.activation) c.args.core.now.store.world c.args.core.now.store.output.items refl)

pub returns-in-Some-clause-turn : goal.returns-in-Some-clause-turn
returns-in-Some-clause-turn c =
    back_turn c.args.core.now (record c.args.core.now { waiting = c.pop.new.self; running = c.in-Some.waiting.activation; at = c.in-Some.waiting.at + 1; store = record c.args.core.now.store { room = c.give_at.new.room } })
    c.args.answer c.requires.on
    (back_stands c.args.core.now (record c.args.core.now { waiting = c.pop.new.self; running = c.in-Some.waiting.activation; at = c.in-Some.waiting.at + 1; store = record c.args.core.now.store { room = c.give_at.new.room } }) c.in-Some.waiting c.args.answer c.in-Some.ensures.items c.requires.on refl refl refl
    (c.give_at.ensures.state (frame c.in-Some.waiting.activation) c.args.core.now.store.world c.args.core.now.store.output.items refl))

pub returns-in-Some-clause-stands : goal.returns-in-Some-clause-stands
returns-in-Some-clause-stands c =
    back_stands c.args.core.now (record c.args.core.now { waiting = c.pop.new.self; running = c.in-Some.waiting.activation; at = c.in-Some.waiting.at + 1; store = record c.args.core.now.store { room = c.give_at.new.room } }) c.in-Some.waiting c.args.answer c.in-Some.ensures.items c.requires.on refl refl refl
    (c.give_at.ensures.state (frame c.in-Some.waiting.activation) c.args.core.now.store.world c.args.core.now.store.output.items refl)

pub line_at-requires : goal.line_at-requires
line_at-requires c =
    let w = (popped c.args.core.now c.pop.new.self.items c.in-Some.waiting c.requires.good c.in-Some.ensures.items).1 in
    line_there c.args.core.now.program.now c.args.plans.now c.in-Some.waiting.activation.number c.in-Some.waiting.at c.in-Some.waiting.activation.proc.now w.call.stmt c.requires.plans w.active.proc w.call.there

pub give_at-requires-clause-line : goal.give_at-requires-clause-line
give_at-requires-clause-line c =
    let w = (popped c.args.core.now c.pop.new.self.items c.in-Some.waiting c.requires.good c.in-Some.ensures.items).1 in
    into_slot c.args.core.now.program.now c.args.plans.now c.in-Some.waiting.activation.number c.in-Some.waiting.at c.in-Some.waiting.activation.proc.now w.call.stmt c.line_at.result.now c.requires.plans
    w.active.proc w.call.there w.call.call c.line_at.ensures
