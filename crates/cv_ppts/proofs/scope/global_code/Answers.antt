use Rattle.cv_ppts.specs.Keys.{setting}
use Rattle.cv_ppts.proofs.Coded.{global_none, global_some}
use Rattle.cv_ppts.proofs.scope.global_code.Goals as goal

pub returns-in-None-number_place : goal.returns-in-None-number_place
returns-in-None-number_place c = global_none (setting c.args.s.now) c.args.number c.in-Some.number _ c.in-Some.is c.number_place.ensures c.in-None-number_place.is

pub returns-in-Some-number_place : goal.returns-in-Some-number_place
returns-in-Some-number_place c =
    global_some (setting c.args.s.now) c.args.number c.in-Some.number c.in-Some-number_place.place _ _ _ c.in-Some.is c.number_place.ensures c.in-Some-number_place.is c.formals_of.ensures c.code_behind.ensures
