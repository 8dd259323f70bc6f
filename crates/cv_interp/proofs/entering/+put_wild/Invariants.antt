use Rattle.cv_interp.proofs.entering.+put_wild.Given as goal

abbrev pub decreases-put_wild : goal.decreases-put_wild
decreases-put_wild l = l.count
