use Rattle.cv_ppts.specs.Numbers.{codes_of}
use Rattle.cv_ppts.specs.Keys.{setting}
use Rattle.cv_ppts.specs.Picked.{choice_of}
use Rattle.cv_ppts.proofs.Called.{no_ensures, some_ensures}
use Rattle.cv_ppts.proofs.calls.missing_in_ensures.Goals as goal

pub returns-then-has_none : goal.returns-then-has_none
returns-then-has_none c = no_ensures (setting c.args.s.now) (codes_of c.args.sets.now) c.args.target c.args.into c.args.g.now (choice_of (setting c.args.s.now) c.args.k.now) c.args.gives.now c.missing_alternative.result c.if-has_none.ensures c.missing_alternative.ensures

pub returns-else-has_none : goal.returns-else-has_none
returns-else-has_none c = some_ensures (setting c.args.s.now) (codes_of c.args.sets.now) c.args.target c.args.into c.args.g.now (choice_of (setting c.args.s.now) c.args.k.now) c.args.gives.now c.missing_each.result c.if-has_none.ensures c.missing_each.ensures
