use Rattle.std.proofs.Common.{Vec, ℕ}
use Rattle.std.proofs.lemmas.Result.{err_from_is_err_and}
use Rattle.std.specs.declared.alloc.Global.{Global}
use Rattle.cv_app.specs.Commands.{Core}
use Rattle.cv_app.proofs.FileLemmas.{core_printed, file_refused}
use Rattle.cv_app.proofs.print_command.printed_of.Goals as goal

pub returns-in_err-program-clause-answer : goal.returns-in_err-program-clause-answer
returns-in_err-program-clause-answer g c =
    let left = err_from_is_err_and c.from_residual.result c.from_residual.ensures.1 in
    rw (left.1, left.2) (file_refused (Vec ℕ Global) (g.S.Store.content c.args.store.now) (Core c.args.file.now) c.in_err-program.field-0.0 tt c.in_err-program.ensures.found)

pub returns-clause-answer : goal.returns-clause-answer
returns-clause-answer g c =
    core_printed (g.S.Store.content c.args.store.now) c.args.file.now c.in_ok-text.text.items c.in_ok-program.program c.in_ok-text.ensures.text c.in_ok-program.ensures.found
