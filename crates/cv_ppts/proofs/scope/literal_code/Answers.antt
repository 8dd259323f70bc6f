use Rattle.cv_ppts.specs.Keys.{setting}
use Rattle.cv_ppts.proofs.Coded.{literal_none, literal_some}
use Rattle.cv_ppts.proofs.scope.literal_code.Goals as goal

pub returns-in-None-number_place : goal.returns-in-None-number_place
returns-in-None-number_place c = literal_none (setting c.args.s.now) c.args.number c.in-Some.number _ c.in-Some.is c.number_place.ensures c.in-None-number_place.is

pub returns-in-Some-number_place : goal.returns-in-Some-number_place
returns-in-Some-number_place c =
    literal_some (setting c.args.s.now) c.args.number c.in-Some.number c.in-Some-number_place.place _ _ _ _ _ c.in-Some.is c.number_place.ensures c.in-Some-number_place.is c.formals_of.ensures c.number_count.ensures c.behind.ensures c.code_behind.ensures
