use Rattle.std.proofs.Common.{sym, ◌∙◌}
use Rattle.cv_app.proofs.BuiltLemmas.{next_proc}
use Rattle.cv_app.proofs.unbuilt.unbuilt_procedure.Goals as goal

pub returns-in-None : goal.returns-in-None
returns-in-None c =
    c.unbuilt_next.ensures ∙ next_proc c.args.procs.now c.main-item.result _ c.in-len1-up.len_at_least c.main-item.is (sym c.unbuilt_first.ensures ∙ c.in-None.is)
