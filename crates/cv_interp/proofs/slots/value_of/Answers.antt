use Rattle.std.proofs.Common.{ap, sym, ◌∙◌}
use Rattle.cv_interp.specs.declared.store.Slot.{Slot}
use Rattle.cv_interp.proofs.Env.{env_gone, env_some}
use Rattle.cv_interp.proofs.slots.value_of.Goals as goal

pub returns-in-None-get : goal.returns-in-None-get
returns-in-None-get c = env_gone c.args._f.now c.args.vars.now c.args._x.now c.in-Some.i (sym c.in-Some.is ∙ ap (λ (s : Slot). s.place) c.requires.at) c.in-None-get.ensures.lookup.3

pub returns-in-Some-get : goal.returns-in-Some-get
returns-in-Some-get c =
    env_some c.args._f.now c.args.vars.now c.args._x.now c.in-Some.i c.in-Some-get.v.now (sym c.in-Some.is ∙ ap (λ (s : Slot). s.place) c.requires.at) c.in-Some-get.ensures.lookup.3.0
    c.in-Some-get.ensures.lookup.3.1
