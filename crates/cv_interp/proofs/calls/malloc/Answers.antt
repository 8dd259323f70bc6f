use Rattle.cv_interp.proofs.Limited.{stmts_at_is}
use Rattle.cv_interp.proofs.calls.malloc.Goals as goal

pub malloc_site-requires-clause-stmts : goal.malloc_site-requires-clause-stmts
malloc_site-requires-clause-stmts c = stmts_at_is c.args.p.now.procs c.args.a.now.number c.args.a.now.proc.now c.requires.active.proc
