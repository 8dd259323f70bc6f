use Rattle.std.proofs.Common.{rules, arith, refl}
use Rattle.std.proofs.lemmas.Result.{err_from_is_err_and}
use Rattle.cv_app.specs.Programs.{CText}
use Rattle.cv_app.proofs.FileLemmas.{given_refused, given_formed}
use Rattle.cv_app.proofs.program.program_of_bytes.Goals as goal

pub returns-in_err-program-clause-given : goal.returns-in_err-program-clause-given
returns-in_err-program-clause-given c =
    let left = err_from_is_err_and c.from_residual.result c.from_residual.ensures.1 in
    rw (left.1, left.2) (given_refused c.args.name.now c.args.bytes.now c.in_err-program.field-0.0 (search rules) c.in_err-program.ensures.faults c.in_err-program.ensures.read)

pub returns-clause-given : goal.returns-clause-given
returns-clause-given c = given_formed c.args.name.now c.args.bytes.now c.in_ok-program.program c.tested.result (search rules) c.in_ok-program.ensures.read (c.tested.ensures.tested c.args.name.now)
