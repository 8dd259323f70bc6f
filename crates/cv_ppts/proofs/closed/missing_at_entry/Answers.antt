use Rattle.cv_ppts.specs.Numbers.{codes_of}
use Rattle.cv_ppts.specs.Keys.{setting}
use Rattle.cv_ppts.proofs.Closing.{entry_first, entry_fourth, entry_second, entry_third}
use Rattle.cv_ppts.proofs.closed.missing_at_entry.Goals as goal

pub returns-in-Some : goal.returns-in-Some
returns-in-Some c = entry_first (setting c.args.s.now) (codes_of c.args.sets.now) _ _ c.in-Some.ensures

pub returns-in-Some-missing_of_locals : goal.returns-in-Some-missing_of_locals
returns-in-Some-missing_of_locals c = entry_second (setting c.args.s.now) (codes_of c.args.sets.now) _ _ c.in-Some-missing_of_locals.ensures

pub returns-in-Some-missing_of_contents : goal.returns-in-Some-missing_of_contents
returns-in-Some-missing_of_contents c = entry_third (setting c.args.s.now) (codes_of c.args.sets.now) _ _ c.in-Some-missing_of_contents.ensures

pub returns-in-None-missing_of_contents : goal.returns-in-None-missing_of_contents
returns-in-None-missing_of_contents c = entry_fourth (setting c.args.s.now) (codes_of c.args.sets.now) c.missing_of_cells.result c.in-None.ensures c.in-None-missing_of_locals.ensures c.in-None-missing_of_contents.ensures c.missing_of_cells.ensures
