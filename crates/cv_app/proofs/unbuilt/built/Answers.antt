use Rattle.std.proofs.Common.{rules}
use Rattle.cv_app.proofs.BuiltLemmas.{built_exactly}
use Rattle.cv_app.proofs.unbuilt.built.Goals as goal

pub returns-then-literals-clause-narrow : goal.returns-then-literals-clause-narrow
returns-then-literals-clause-narrow c = built_exactly c.args.program.now c.unbuilt_procedure.result (search rules)
