use Rattle.std.proofs.Common.{◌≤◌, sym, subst, ◌∙◌, below_more, length}
use Rattle.cv_core.specs.Names.{stmts_of}
use Rattle.cv_points.specs.Closed.{HoldsIn}
use Rattle.cv_points.proofs.Lacking.{each_number, get-past, none_some}
use Rattle.cv_points.proofs.check.first_open_in.Goals as goal

pub loop-statement-preserved : goal.loop-statement-preserved
loop-statement-preserved c =
    below_more (λ k. HoldsIn c.args.p.now c.args.sets.now c.args.proc c.args.f.now k) c.loop-statement.statement c.loop-statement.invariant c.if-not-holds_in.ensures

pub returns : goal.returns
returns c =
    let ge : length (stmts_of c.args.f.now.body) ≤ c.loop-statement.statement = subst (λ ss. length ss ≤ c.loop-statement.statement) c.stmts_of-statement-end.ensures c.loop-statement-test.false in
    each_number (λ k. HoldsIn c.args.p.now c.args.sets.now c.args.proc c.args.f.now k) (length (stmts_of c.args.f.now.body)) c.loop-statement.statement ge
    (λ n h s e. absurd (none_some s (sym (get-past (stmts_of c.args.f.now.body) n h) ∙ e)))
    c.loop-statement.invariant
