use Rattle.std.proofs.Common.{◌<◌, ◌≤◌, subst}
use Rattle.cv_ppts.specs.Keys.{keys, setting}
use Rattle.cv_ppts.proofs.Coded.{place_found, place_missed, place_passed}
use Rattle.cv_ppts.proofs.scope.number_place.Goals as goal

pub returns-then-is_number : goal.returns-then-is_number
returns-then-is_number c =
    place_found (keys (setting c.args.s.now) c.args.which) c.loop-place.place c.loop-place.count c.args.number c.new_at-new.result _
    (subst (λ n. c.loop-place.place < n) c.key_count-place-end.ensures c.loop-place-test.true) c.new_at-new.ensures c.if-is_number.ensures c.loop-place.invariant.0

pub loop-place-preserved : goal.loop-place-preserved
loop-place-preserved c =
    place_passed (keys (setting c.args.s.now) c.args.which) c.loop-place.place c.loop-place.count c.counted-count.result c.args.number c.new_at-new.result _
    (subst (λ n. c.loop-place.place < n) c.key_count-place-end.ensures c.loop-place-test.true) c.new_at-new.ensures c.if-is_number.ensures c.counted-count.ensures c.loop-place.invariant

pub returns : goal.returns
returns c =
    place_missed (keys (setting c.args.s.now) c.args.which) c.loop-place.place c.loop-place.count c.args.number _
    (subst (λ n. n ≤ c.loop-place.place) c.key_count-place-end.ensures c.loop-place-test.false) c.loop-place.invariant.0
