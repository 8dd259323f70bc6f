use Rattle.std.proofs.Common.{ap, slice_get, sym, ◌∙◌}
use Rattle.std.specs.Option.{option_copied}
use Rattle.cv_core.specs.declared.program.Program.{Program}
use Rattle.cv_points.proofs.Cursors.{none_behind}
use Rattle.cv_points.proofs.cursor.number_behind.Goals as goal

pub returns-clause-number : goal.returns-clause-number
returns-clause-number c =
    none_behind c.args.p.now c.loop-f.at c.args.object c.loop-f.invariant.0
    (ap (λ (q : Program). slice_get q.procs c.loop-f.at.proc) (sym c.p.view_is) ∙ sym c.get.ensures.value ∙ ap option_copied c.in_default.is) c.loop-f.invariant.1
