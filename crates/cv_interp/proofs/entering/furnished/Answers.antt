use Rattle.std.proofs.Common.{◌≡◌, ap, ◌∙◌, refl, List, [], length}
use Rattle.cv_core.specs.declared.program.Local.{Local}
use Rattle.cv_meaning.specs.Contract.{Env}
use Rattle.cv_meaning.specs.Look.{look}
use Rattle.cv_meaning.specs.Memory.{Memory}
use Rattle.cv_meaning.specs.State.{make_locals}
use Rattle.cv_interp.specs.Seen.{left}
use Rattle.cv_interp.specs.Slots.{env_of, variables_of}
use Rattle.cv_interp.proofs.Bound.{first_env}
use Rattle.cv_interp.proofs.entering.furnished.Goals as goal

pub returns-clause-state : goal.returns-clause-state
returns-clause-state c =
    let vars : env_of c.args.g.now c.in_ok-vars.vars.items ≡ look c.args.formals.now =
    first_env c.args.g.now c.args.formals.now c.in_ok-vars.vars.items (length (variables_of c.locals_of-locals.result.now)) c.requires.names
    (c.in_ok-vars.ensures ∙ rw c.as_slice.ensures refl) in
    c.in_ok-make_locals.ensures.state
    ∙ ap (λ (e : Env). make_locals c.args.p.now c.args.site c.locals_of-locals.result.now
    (record { vars = e; memory = c.in_ok-copy.field-0; world = left c.args.w.now c.args.taken; output = [] })) vars
    ∙ ap (λ (m : Memory). make_locals c.args.p.now c.args.site c.locals_of-locals.result.now
    (record { vars = look c.args.formals.now; memory = m; world = left c.args.w.now c.args.taken; output = [] })) c.in_ok-copy.ensures
    ∙ ap (λ (ls : List Local). make_locals c.args.p.now c.args.site ls
    (record { vars = look c.args.formals.now; memory = c.args.memory.now; world = left c.args.w.now c.args.taken; output = [] })) c.locals_of-locals.ensures
