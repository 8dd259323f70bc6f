use Rattle.std.proofs.Common.{ℕ, [], ◌≤◌, ◌∙◌, length, subst, sym}
use Rattle.cv_points.specs.Closed.{Family, HoldsAt}
use Rattle.cv_points.proofs.Added.{adds_all, adds_next, are_rules}
use Rattle.cv_points.proofs.Lacking.{get-past, none_some}
use Rattle.cv_points.proofs.collect.all_rules.Goals as goal

pub loop-proc-preserved : goal.loop-proc-preserved
loop-proc-preserved c =
    adds_next c.args.p.now [] c.loop-proc.rules.items c.put_proc_at.new.rules.items
    (λ (S : Family) (n : ℕ). (k : ℕ) → HoldsAt c.args.p.now S n k) c.loop-proc.proc
    c.loop-proc.invariant c.in_ok-put_proc_at.ensures

pub returns : goal.returns
returns c =
    let ge : length c.args.p.now.procs ≤ c.loop-proc.proc = subst (λ n. n ≤ c.loop-proc.proc) c.proc_count-proc-end.ensures c.loop-proc-test.false in
    are_rules c.args.p.now c.loop-proc.rules.items
    (adds_all c.args.p.now [] c.loop-proc.rules.items
    (λ (S : Family) (n : ℕ). (k : ℕ) → HoldsAt c.args.p.now S n k) c.loop-proc.proc (length c.args.p.now.procs) ge
    (λ S n h k f e. absurd (none_some f (sym (get-past c.args.p.now.procs n h) ∙ e)))
    c.loop-proc.invariant)
