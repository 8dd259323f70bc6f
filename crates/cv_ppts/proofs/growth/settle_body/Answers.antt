use Rattle.std.proofs.Common.{◌≤◌, length, subst}
use Rattle.cv_ppts.specs.Keys.{setting}
use Rattle.cv_ppts.proofs.Grown.{HoldBelow, settles_all, settles_next, settles_none, table_here}
use Rattle.cv_ppts.proofs.growth.settle_body.Goals as goal

pub loop-statement-init : goal.loop-statement-init
loop-statement-init c = settles_none (setting c.args.s.now) c.args.sets.now.items

pub settle-requires-clause-table : goal.settle-requires-clause-table
settle-requires-clause-table c = table_here c.args.sets.now.items c.loop-statement.sets.items c.loop-statement.more (HoldBelow (setting c.args.s.now) c.loop-statement.statement) c.loop-statement.invariant.grown c.requires.table

pub loop-statement-preserved : goal.loop-statement-preserved
loop-statement-preserved c =
    settles_next (setting c.args.s.now) c.args.sets.now.items c.loop-statement.sets.items c.settle.new.sets.items c.loop-statement.more c.in_ok-grew.grew c.either-more.result c.loop-statement.statement
    c.either-more.ensures c.loop-statement.invariant c.in_ok-grew.ensures

pub returns : goal.returns
returns c =
    settles_all (setting c.args.s.now) c.args.sets.now.items c.loop-statement.sets.items c.loop-statement.more c.loop-statement.statement
    (subst (λ ss. length ss ≤ c.loop-statement.statement) c.stmts_of-statement-end.ensures c.loop-statement-test.false) c.loop-statement.invariant
