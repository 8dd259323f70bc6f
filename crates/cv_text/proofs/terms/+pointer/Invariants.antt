use Rattle.cv_text.proofs.terms.+pointer.Given as goal

abbrev pub decreases-pointer : goal.decreases-pointer
decreases-pointer l = l.levels
