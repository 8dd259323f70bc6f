use Rattle.std.proofs.Common.{sym, ap, ◌∙◌, None, Some}
use Rattle.std.specs.Prelude.{if◌then◌else◌}
use Rattle.cv_core.specs.declared.faults.ErrKind.TheVariants as err
use Rattle.cv_interp.specs.declared.machine.Ended.TheVariants as ended
use Rattle.cv_interp.proofs.machine.barred.Goals as goal

pub returns-then-may_enter : goal.returns-then-may_enter
returns-then-may_enter c =
    ap (λ b. if b then None else Some (ended.Error err.Requires c.args.number c.args.main.now.line)) (sym c.if-may_enter.true ∙ c.may_enter.ensures c.args.number)

pub returns : goal.returns
returns c =
    ap (λ b. if b then None else Some (ended.Error err.Requires c.args.number c.args.main.now.line)) (sym c.if-may_enter.false ∙ c.may_enter.ensures c.args.number)
