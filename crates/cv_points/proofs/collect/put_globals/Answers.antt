use Rattle.std.proofs.Common.{ℕ, ◌≤◌, length, subst}
use Rattle.cv_points.specs.Closed.{Family, MaybeHolds, global_rule}
use Rattle.cv_points.proofs.Added.{adds_all, adds_next}
use Rattle.cv_points.proofs.Placed.{global_past}
use Rattle.cv_points.proofs.collect.put_globals.Goals as goal

pub loop-number-preserved : goal.loop-number-preserved
loop-number-preserved c =
    adds_next c.args.p.now c.args.rules.now.items c.loop-number.rules.items c.put_rule.new.rules.items
    (λ (S : Family) (n : ℕ). MaybeHolds c.args.p.now S (global_rule c.args.p.now n)) c.loop-number.number
    c.loop-number.invariant (c.in_ok-put_rule.ensures c.args.p.now (global_rule c.args.p.now c.loop-number.number) c.global_rule.ensures)

pub returns : goal.returns
returns c =
    let ge : length c.args.p.now.globals ≤ c.loop-number.number = subst (λ n. n ≤ c.loop-number.number) c.global_count-number-end.ensures c.loop-number-test.false in
    adds_all c.args.p.now c.args.rules.now.items c.loop-number.rules.items
    (λ (S : Family) (n : ℕ). MaybeHolds c.args.p.now S (global_rule c.args.p.now n)) c.loop-number.number (length c.args.p.now.globals) ge
    (λ S n h. global_past c.args.p.now S n h)
    c.loop-number.invariant
