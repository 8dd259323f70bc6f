use Rattle.std.proofs.Common.{Bool, inr, sym, ◌∙◌}
use Rattle.std.proofs.lemmas.Result.{err_from_is_err_and}
use Rattle.cv_core.specs.declared.faults.LimitName.TheVariants as limit
use Rattle.cv_io.specs.Files.{HoldsMore}
use Rattle.cv_app.specs.Commands.{Check}
use Rattle.cv_app.specs.Refusals.{MayRefuse}
use Rattle.cv_app.proofs.CheckLemmas.{not_built, loads_cert, cert_refused, cert_decided, accepted_true}
use Rattle.cv_app.proofs.FileLemmas.{file_fault, file_refused, has_clean}
use Rattle.cv_app.proofs.Hindered.{not_read_so}
use Rattle.cv_app.proofs.check.decide.Goals as goal

pub returns-in_err-program-clause-answer : goal.returns-in_err-program-clause-answer
returns-in_err-program-clause-answer g c =
    let left = err_from_is_err_and c.from_residual.result c.from_residual.ensures.1 in
    rw (left.1, left.2) (file_refused Bool (g.S.Store.content c.args.store.now) (Check c.args.file.now c.args.cert.now) c.in_err-program.field-0.0 tt c.in_err-program.ensures.found)

pub returns-in_err-program-clause-faults : goal.returns-in_err-program-clause-faults
returns-in_err-program-clause-faults g c =
    let left = err_from_is_err_and c.from_residual.result c.from_residual.ensures.1 in
    rw (left.1, left.2) (file_fault (Check c.args.file.now c.args.cert.now) c.in_err-program.field-0.0 tt c.in_err-program.ensures.faults)

pub returns-in-Some-clause-answer : goal.returns-in-Some-clause-answer
returns-in-Some-clause-answer g c =
    not_built (g.S.Store.content c.args.store.now) c.args.file.now c.args.cert.now c.in_ok-program.program c.in-Some.line c.in_ok-program.ensures.found
    (sym c.built.ensures.first ∙ c.in-Some.is)

pub returns-in_err-text-clause-answer : goal.returns-in_err-text-clause-answer
returns-in_err-text-clause-answer g c =
    let left = err_from_is_err_and c.from_residual-in_err-text.result c.from_residual-in_err-text.ensures.1 in
    rw (left.1, left.2)
    (cert_refused (g.S.Store.content c.args.store.now) (g.S.Store.content c.program_of_file.new.store) c.args.file.now c.args.cert.now c.in_ok-program.program _ _ c.in_err-text.field-0.0
    c.in_ok-program.ensures.unchanged c.in_ok-program.ensures.found (c.built.ensures.narrow.0 c.in_default.is) c.in_err-text.ensures.refused)

pub returns-in_err-text-clause-faults : goal.returns-in_err-text-clause-faults
returns-in_err-text-clause-faults g c =
    let left = err_from_is_err_and c.from_residual-in_err-text.result c.from_residual-in_err-text.ensures.1 in
    rw (left.1, left.2)
    (not_read_so limit.Certificate (HoldsMore (g.S.Store.content c.program_of_file.new.store) c.args.cert.now 268435456) _ _ c.in_err-text.field-0.0
    (MayRefuse (Check c.args.file.now c.args.cert.now)) c.in_err-text.ensures.refused tt tt (λ more. tt))

pub returns-in_err-text-clause-read_place : goal.returns-in_err-text-clause-read_place
returns-in_err-text-clause-read_place g c = λ is.
    inr (loads_cert (g.S.Store.content c.args.store.now) c.args.file.now c.in_ok-program.program c.in_ok-program.ensures.found (c.built.ensures.narrow.0 c.in_default.is))

pub returns-clause-answer : goal.returns-clause-answer
returns-clause-answer g c =
    cert_decided (g.S.Store.content c.args.store.now) (g.S.Store.content c.program_of_file.new.store) c.args.file.now c.args.cert.now c.in_ok-text.text.items c.in_ok-program.program c.in_ok-accepted.accepted
    c.in_ok-program.ensures.unchanged c.in_ok-program.ensures.found (c.built.ensures.narrow.0 c.in_default.is) c.in_ok-text.ensures.given
    (rw c.deref.ensures.value at c.in_ok-accepted.ensures.exact)

pub returns-clause-clean : goal.returns-clause-clean
returns-clause-clean g c = λ is.
    has_clean (g.S.Store.content c.args.store.now) c.args.file.now c.in_ok-program.program c.in_ok-program.ensures.found
    (c.in_ok-accepted.ensures.clean (accepted_true _ is) (c.built.ensures.narrow.0 c.in_default.is))
