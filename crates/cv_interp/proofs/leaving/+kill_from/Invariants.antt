use Rattle.cv_interp.proofs.leaving.+kill_from.Given as goal

abbrev pub decreases-kill_from : goal.decreases-kill_from
decreases-kill_from l = l.count
