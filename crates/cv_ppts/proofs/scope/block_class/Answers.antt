use Rattle.cv_core.specs.Names.{is_pointer_kind}
use Rattle.std.proofs.Common.{◌∙◌, ap, drop, map}
use Rattle.std.specs.List.{filter}
use Rattle.cv_ppts.specs.Entities.{class_of_kind}
use Rattle.cv_ppts.specs.Keys.{setting}
use Rattle.cv_ppts.specs.Setting.{class_or, class_with, formal_classes, global_classes, listed}
use Rattle.cv_ppts.proofs.Coded.{listed_is}
use Rattle.cv_ppts.proofs.scope.block_class.Goals as goal

pub returns : goal.returns
returns c =
    let s = c.args.s.now in
    c.class_or.ensures
    ∙ ap (λ o. class_or o c.global_class.result) (c.formal_class.ensures ∙ ap (λ xs. class_with c.args.block s.codes.now (map (λ x. class_of_kind x.kind) (filter (λ x. is_pointer_kind x.kind) xs))) c.as_slice.ensures)
    ∙ ap (λ o. class_or (class_with c.args.block s.codes.now (formal_classes s.f.now)) o)
    (c.global_class.ensures ∙ ap (λ ns. class_with c.args.block c.behind.result.now (global_classes s.p.now ns)) (listed_is (setting s))
    ∙ ap (λ ks. class_with c.args.block ks (global_classes s.p.now (listed (setting s)))) (c.behind.ensures ∙ ap (λ n. drop n s.codes.now) c.formals_of.ensures))
