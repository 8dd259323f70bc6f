use Rattle.std.proofs.Common.{sym, ◌∙◌, ap}
use Rattle.cv_ppts.specs.Keys.{keys, setting}
use Rattle.cv_ppts.specs.Setting.{class_with, global_classes}
use Rattle.cv_ppts.specs.declared.scope.Keys.TheVariants as of
use Rattle.cv_ppts.proofs.Keyed.{later_old}
use Rattle.cv_ppts.proofs.scope.+global_class.Goals as goal

pub returns-in-None : goal.returns-in-None
returns-in-None t c =
    c.global_class.ensures ∙ ap (λ ns. class_with c.args.block c.args.codes.now (global_classes c.args.s.now.p.now ns)) (sym (later_old (keys (setting c.args.s.now) of.Listed) c.args.place (sym c.new_at.ensures ∙ c.in-None.is)))
