use Rattle.std.proofs.Common.{sym}
use Rattle.cv_ppts.proofs.Found.{cases_few, pick_none, pick_some, too_many_cases}
use Rattle.cv_ppts.proofs.listing.all_cases.Goals as goal

pub returns-in-None-2 : goal.returns-in-None-2
returns-in-None-2 c =
    too_many_cases c.args.p.now c.args.sets.now c.args.proc c.in-Some.f.now (sym c.in-Some.ensures.value)
    (pick_none c.in_ok-all_codes-in-Some.field-0 _ _ c.in-None-2.is c.in_ok-all_codes-in-Some.ensures)

pub returns-in_ok-cases-in-Some-2 : goal.returns-in_ok-cases-in-Some-2
returns-in_ok-cases-in-Some-2 c =
    cases_few c.args.p.now c.args.sets.now c.args.proc c.in-Some.f.now c.in_ok-cases-in-Some-2.cases.items c.in-Some-2.lists.items (sym c.in-Some.ensures.value)
    c.in_ok-cases-in-Some-2.ensures
    (pick_some c.in_ok-all_codes-in-Some.field-0 c.in-Some-2.lists _ _ c.in-Some-2.is c.in_ok-all_codes-in-Some.ensures)
