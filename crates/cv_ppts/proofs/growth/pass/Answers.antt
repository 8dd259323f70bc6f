use Rattle.cv_ppts.specs.Keys.{setting}
use Rattle.cv_ppts.specs.Plain.{HasEntryCodes, Sets}
use Rattle.cv_ppts.proofs.Grown.{settles_closed, table_here}
use Rattle.cv_ppts.proofs.growth.pass.Goals as goal

pub settle_body-requires-clause-table : goal.settle_body-requires-clause-table
settle_body-requires-clause-table c = table_here c.args.sets.now.items c.enter.new.sets.items c.in_ok-entered.entered (λ (R : Sets). HasEntryCodes (setting c.args.s.now) R) c.in_ok-entered.ensures.grown c.requires.table

pub returns : goal.returns
returns c =
    settles_closed (setting c.args.s.now) c.args.sets.now.items c.enter.new.sets.items c.settle_body.new.sets.items c.in_ok-entered.entered c.in_ok-grew.grew c.either.result
    c.either.ensures c.in_ok-entered.ensures c.in_ok-grew.ensures
