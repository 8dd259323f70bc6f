use Rattle.cv_interp.proofs.entering.make_object.Goals as goal

pub returns-in_ok-_object-in-Buffer-clause-state : goal.returns-in_ok-_object-in-Buffer-clause-state
returns-in_ok-_object-in-Buffer-clause-state c = rw c.in-Buffer.is c.in_ok-_object-in-Buffer.ensures.state
