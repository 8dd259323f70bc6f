use Rattle.std.proofs.lemmas.Result.{err_from_is_err_and}
use Rattle.cv_core.specs.declared.faults.LimitName.TheVariants as limit
use Rattle.cv_io.specs.Files.{HoldsMore}
use Rattle.cv_app.specs.Refusals.{IsFileFault}
use Rattle.cv_app.proofs.FileLemmas.{found_loaded, found_refused}
use Rattle.cv_app.proofs.Hindered.{not_read_so}
use Rattle.cv_app.proofs.program.program_of_file.Goals as goal

pub returns-clause-found : goal.returns-clause-found
returns-clause-found g c =
    found_loaded (g.S.Store.content c.args.store.now) c.args.file.now c.in_ok-bytes.bytes.items c.deref.result.now c.program_of_bytes.result c.in_ok-bytes.ensures.given c.deref.ensures.value c.program_of_bytes.ensures.given

pub returns-in_err-bytes-clause-found : goal.returns-in_err-bytes-clause-found
returns-in_err-bytes-clause-found g c =
    let left = err_from_is_err_and c.from_residual.result c.from_residual.ensures.1 in
    rw (left.1, left.2) (found_refused (g.S.Store.content c.args.store.now) c.args.file.now _ _ c.in_err-bytes.field-0.0 c.in_err-bytes.ensures.refused)

pub returns-in_err-bytes-clause-faults : goal.returns-in_err-bytes-clause-faults
returns-in_err-bytes-clause-faults g c =
    let left = err_from_is_err_and c.from_residual.result c.from_residual.ensures.1 in
    rw (left.1, left.2)
    (not_read_so limit.File (HoldsMore (g.S.Store.content c.args.store.now) c.args.file.now 1048576) _ _ c.in_err-bytes.field-0.0 IsFileFault c.in_err-bytes.ensures.refused tt tt (λ more. tt))
