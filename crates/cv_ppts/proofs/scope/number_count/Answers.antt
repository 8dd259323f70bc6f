use Rattle.std.proofs.Common.{◌<◌, ◌≤◌, ◌∙◌, ◌+◌, length, ap, subst}
use Rattle.cv_ppts.specs.Entities.{as_list}
use Rattle.cv_ppts.specs.Keys.{keys, setting}
use Rattle.cv_ppts.proofs.Coded.{count_end, count_step}
use Rattle.cv_ppts.proofs.scope.number_count.Goals as goal

pub loop-place-preserved : goal.loop-place-preserved
loop-place-preserved c =
    count_step (keys (setting c.args.s.now) c.args.which) c.loop-place.place c.loop-place.count c.counted-count.result _
    (subst (λ n. c.loop-place.place < n) c.key_count-place-end.ensures c.loop-place-test.true)
    (c.counted-count.ensures ∙ ap (λ o. c.loop-place.count + length (as_list o)) c.new_at.ensures) c.loop-place.invariant

pub returns : goal.returns
returns c =
    count_end (keys (setting c.args.s.now) c.args.which) c.loop-place.place c.loop-place.count _
    (subst (λ n. n ≤ c.loop-place.place) c.key_count-place-end.ensures c.loop-place-test.false) c.loop-place.invariant.0
