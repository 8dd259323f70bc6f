use Rattle.cv_interp.proofs.Taking.{end_leads, got, no_call, none_got, none_leads}
use Rattle.cv_interp.proofs.machine.take.Goals as goal

pub returns-in-Some-clause-led : goal.returns-in-Some-clause-led
returns-in-Some-clause-led c = end_leads c.args.core.now c.in-Some.end c.turn_of.result c.in-Some.is c.turn_of.ensures

pub take_stmt-requires-clause-at : goal.take_stmt-requires-clause-at
take_stmt-requires-clause-at c = got c.stmts_of.result.now _ c.args.core.now.at c.in-Some-get.stmt.now c.stmts_of.ensures c.in-Some-get.ensures.lookup.3.0 (c.in-Some-get.ensures.lookup.3.1 c.in-Some-get.stmt.now)

pub returns-in-None-clause-led : goal.returns-in-None-clause-led
returns-in-None-clause-led c =
    none_leads c.args.core.now c.in_default.is (none_got c.stmts_of.result.now _ c.args.core.now.at c.stmts_of.ensures c.in-None.ensures.lookup.3)

pub returns-in-Some-get-clause-steady : goal.returns-in-Some-get-clause-steady
returns-in-Some-get-clause-steady c = λ h.
    c.take_stmt.ensures.steady (no_call c.args.core.now c.in-Some-get.stmt.now c.in_default.is
    (got c.stmts_of.result.now _ c.args.core.now.at c.in-Some-get.stmt.now c.stmts_of.ensures c.in-Some-get.ensures.lookup.3.0 (c.in-Some-get.ensures.lookup.3.1 c.in-Some-get.stmt.now)) h)
