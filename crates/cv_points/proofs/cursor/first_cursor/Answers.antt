use Rattle.cv_core.specs.Names.{is_pointer_global}
use Rattle.std.proofs.Common.{refl, ap, length, ◌∙◌}
use Rattle.std.specs.List.{filter}
use Rattle.cv_core.specs.declared.program.Program.{Program}
use Rattle.cv_points.specs.Holders.{first_holder}
use Rattle.cv_points.specs.Walks.{word}
use Rattle.cv_points.proofs.Cursors.{first_is}
use Rattle.cv_points.proofs.cursor.first_cursor.Goals as goal

pub returns : goal.returns
returns c =
    first_is c.args.p.now _ (c.first_holder.ensures ∙ ap (λ n. word (first_holder c.args.p.now n)) c.proc_count.ensures) refl c.before_objects.ensures
    (c.pointer_globals.ensures ∙ ap (λ gs. length (filter (λ g. is_pointer_global g.body) gs)) c.as_slice.ensures ∙ ap (λ (q : Program). length (filter (λ g. is_pointer_global g.body) q.globals)) c.p.view_is)
