use Rattle.cv_check.proofs.Decided.{decided, decided_clean}
use Rattle.cv_check.proofs.check.check_narrow.Goals as goal

pub returns-in_ok-valid-in-Ok-clause-exact : goal.returns-in_ok-valid-in-Ok-clause-exact
returns-in_ok-valid-in-Ok-clause-exact c =
    decided c.args.p.now c.args.text.now _ _ _ _ c.buffer_size-size.ensures.value c.statements-stmts.ensures c.in-Ok.ensures.value c.in_ok-valid-in-Ok.ensures

pub returns-in_ok-valid-in-Ok-clause-clean : goal.returns-in_ok-valid-in-Ok-clause-clean
returns-in_ok-valid-in-Ok-clause-clean c =
    decided_clean c.args.p.now c.args.text.now _ _ _ _ c.buffer_size-size.ensures.value c.buffer_size-size.ensures.small c.statements-stmts.ensures c.in-Ok.ensures.value
    c.in_ok-valid-in-Ok.ensures
