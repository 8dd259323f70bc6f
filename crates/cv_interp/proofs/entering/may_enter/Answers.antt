use Rattle.cv_interp.proofs.entering.may_enter.Goals as goal

pub returns : goal.returns
returns c = λ i. rw (← c.requires.names, ← c.p.view_is) c.holds.ensures
