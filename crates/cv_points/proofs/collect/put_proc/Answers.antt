use Rattle.std.proofs.Common.{ℕ, ◌≤◌, ◌∙◌, length, subst, sym}
use Rattle.cv_core.specs.Names.{stmts_of}
use Rattle.cv_points.specs.Closed.{Family, HoldsIn}
use Rattle.cv_points.proofs.Added.{adds_all, adds_next}
use Rattle.cv_points.proofs.Lacking.{get-past, none_some}
use Rattle.cv_points.proofs.collect.put_proc.Goals as goal

pub loop-statement-preserved : goal.loop-statement-preserved
loop-statement-preserved c =
    adds_next c.args.p.now c.args.rules.now.items c.loop-statement.rules.items c.put_at.new.rules.items
    (λ (S : Family) (n : ℕ). HoldsIn c.args.p.now S c.args.proc c.args.f.now n) c.loop-statement.statement
    c.loop-statement.invariant c.in_ok-put_at.ensures

pub returns : goal.returns
returns c =
    let ge : length (stmts_of c.args.f.now.body) ≤ c.loop-statement.statement = subst (λ ss. length ss ≤ c.loop-statement.statement) c.stmts_of-statement-end.ensures c.loop-statement-test.false in
    adds_all c.args.p.now c.args.rules.now.items c.loop-statement.rules.items
    (λ (S : Family) (n : ℕ). HoldsIn c.args.p.now S c.args.proc c.args.f.now n) c.loop-statement.statement (length (stmts_of c.args.f.now.body)) ge
    (λ S n h s e. absurd (none_some s (sym (get-past (stmts_of c.args.f.now.body) n h) ∙ e)))
    c.loop-statement.invariant
