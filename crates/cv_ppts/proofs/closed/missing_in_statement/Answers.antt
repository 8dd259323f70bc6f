use Rattle.cv_ppts.specs.Numbers.{codes_of}
use Rattle.cv_ppts.specs.Keys.{setting}
use Rattle.cv_ppts.proofs.Closing.{call_first, call_only, call_second}
use Rattle.cv_ppts.proofs.closed.missing_in_statement.Goals as goal

pub returns-in-Some : goal.returns-in-Some
returns-in-Some c = call_first (setting c.args.s.now) (codes_of c.args.sets.now) c.args.target c.args.into.now c.args.name.now c.args.args.now c.args.new c.place_of_variable-place.result _ _ c.place_of_variable-place.ensures c.in-Some.ensures

pub returns-then-new : goal.returns-then-new
returns-then-new c = call_second (setting c.args.s.now) (codes_of c.args.sets.now) c.args.target c.args.into.now c.args.name.now c.args.args.now c.args.new c.place_of_variable-place.result c.missing_losses.result c.place_of_variable-place.ensures c.in-None.ensures c.if-new.true c.missing_losses.ensures

pub returns-else-new : goal.returns-else-new
returns-else-new c = call_only (setting c.args.s.now) (codes_of c.args.sets.now) c.args.target c.args.into.now c.args.name.now c.args.args.now c.args.new c.place_of_variable-place.result c.place_of_variable-place.ensures c.in-None.ensures c.if-new.false
