use Rattle.std.proofs.Common.{ap, ◌∙◌, ◌++◌}
use Rattle.cv_ppts.specs.Entities.{as_list, global_number}
use Rattle.cv_ppts.proofs.Peeled.{next_mapped}
use Rattle.cv_ppts.proofs.named.globals_named.Goals as goal

pub loop-rest-preserved : goal.loop-rest-preserved
loop-rest-preserved c =
    next_mapped (λ x. as_list (global_number c.args.p.now x)) c.loop-rest.numbers.items c.push_number.new.numbers.items _ _ _ _ c.in-len1-up.len_at_least c.name-item.is
    (c.in_ok-push_number.ensures ∙ ap (λ o. c.loop-rest.numbers.items ++ as_list o) c.global_number.ensures) c.loop-rest.invariant
