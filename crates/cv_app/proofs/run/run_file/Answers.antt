use Rattle.std.proofs.Common.{rules, ◌≡◌, ◌∙◌, ap, inl, inr, List, IfSome, None, Some}
use Rattle.std.proofs.lemmas.Result.{err_from_is_err_and}
use Rattle.cv_core.specs.declared.faults.LimitName.TheVariants as limit
use Rattle.cv_interp.specs.Start.{formals_of, main_of}
use Rattle.cv_meaning.specs.declared.ends.Arg.{Arg}
use Rattle.std.specs.Prelude.{◌<◌, length}
use Rattle.cv_app.specs.declared.served.Served.{Served}
use Rattle.cv_app.specs.Commands.{Run, words_of}
use Rattle.cv_app.specs.Faults.{input_limit}
use Rattle.cv_app.specs.Refusals.{MayRefuse}
use Rattle.cv_app.specs.Runs.{args_for, ends, run_served}
use Rattle.cv_app.proofs.FileLemmas.{file_fault, file_refused}
use Rattle.cv_app.proofs.Hindered.{not_read_so}
use Rattle.cv_app.proofs.InputLemmas.{args_suit}
use Rattle.cv_app.proofs.RunLemmas.{has_other_words, input_place, input_refused, reads_in, run_ended, words_refused}
use Rattle.cv_app.proofs.run.run_file.Goals as goal

pub returns-in_err-program-clause-answer : goal.returns-in_err-program-clause-answer
returns-in_err-program-clause-answer g c =
    let left = err_from_is_err_and c.from_residual.result c.from_residual.ensures.1 in
    rw (left.1, left.2) (file_refused Served (g.S.Store.content c.args.store.now) (Run c.args.file.now c.args.steps (words_of c.args.words.now) (g.I.Source.content c.args.input.now)) c.in_err-program.field-0.0 tt c.in_err-program.ensures.found)

pub returns-in_err-program-clause-faults : goal.returns-in_err-program-clause-faults
returns-in_err-program-clause-faults g c =
    let left = err_from_is_err_and c.from_residual.result c.from_residual.ensures.1 in
    rw (left.1, left.2) (file_fault (Run c.args.file.now c.args.steps (words_of c.args.words.now) (g.I.Source.content c.args.input.now)) c.in_err-program.field-0.0 tt c.in_err-program.ensures.faults)

pub run_program-requires-clause-mains : goal.run_program-requires-clause-mains
run_program-requires-clause-mains g c =
    rw c.deref.ensures.value (args_suit (formals_of (main_of c.in_ok-program.program)) (words_of c.args.words.now) c.in-Some.args.items (search rules)).0

pub run_program-requires-clause-few : goal.run_program-requires-clause-few
run_program-requires-clause-few g c =
    rw c.deref.ensures.value (args_suit (formals_of (main_of c.in_ok-program.program)) (words_of c.args.words.now) c.in-Some.args.items (search rules)).1

pub returns-in_default-clause-answer : goal.returns-in_default-clause-answer
returns-in_default-clause-answer g c =
    let none : args_for c.in_ok-program.program (words_of c.args.words.now) ≡ None = search rules in
    words_refused (g.S.Store.content c.args.store.now) c.args.file.now c.args.steps (words_of c.args.words.now) (g.I.Source.content c.args.input.now) c.in_ok-program.program c.in_ok-program.ensures.found none

pub returns-in_default-clause-usage : goal.returns-in_default-clause-usage
returns-in_default-clause-usage g c =
    let none : args_for c.in_ok-program.program (words_of c.args.words.now) ≡ None = search rules in
    λ _. has_other_words (g.S.Store.content c.args.store.now) c.args.file.now (words_of c.args.words.now) c.in_ok-program.program c.in_ok-program.ensures.found none

pub returns-in_err-bytes-clause-answer : goal.returns-in_err-bytes-clause-answer
returns-in_err-bytes-clause-answer g c =
    let left = err_from_is_err_and c.from_residual-in_err-bytes.result c.from_residual-in_err-bytes.ensures.1 in
    let given : args_for c.in_ok-program.program (words_of c.args.words.now) ≡ Some c.in-Some.args.items = search rules in
    rw (left.1, left.2) (input_refused (g.S.Store.content c.args.store.now) c.args.file.now c.args.steps (words_of c.args.words.now) (g.I.Source.content c.args.input.now) c.in_ok-program.program
    c.in-Some.args.items (g.I.Source.faults c.args.input.now) (g.I.Source.faults c.input_of.new.input) c.in_err-bytes.field-0.0 c.in_ok-program.ensures.found given
    c.in_err-bytes.ensures.asked c.in_err-bytes.ensures.refused)

pub returns-in_err-bytes-clause-faults : goal.returns-in_err-bytes-clause-faults
returns-in_err-bytes-clause-faults g c =
    let left = err_from_is_err_and c.from_residual-in_err-bytes.result c.from_residual-in_err-bytes.ensures.1 in
    rw (left.1, left.2)
    (not_read_so limit.Input (IfSome (g.I.Source.content c.args.input.now) (λ bytes. input_limit < length bytes)) _ _ c.in_err-bytes.field-0.0
    (MayRefuse (Run c.args.file.now c.args.steps (words_of c.args.words.now) (g.I.Source.content c.args.input.now))) c.in_err-bytes.ensures.refused tt tt (λ more. tt))

pub returns-in_err-bytes-clause-read_place : goal.returns-in_err-bytes-clause-read_place
returns-in_err-bytes-clause-read_place g c =
    let given : args_for c.in_ok-program.program (words_of c.args.words.now) ≡ Some c.in-Some.args.items = search rules in
    λ is. inr (reads_in (g.S.Store.content c.args.store.now) c.args.file.now c.args.steps (words_of c.args.words.now) (g.I.Source.content c.args.input.now) c.in_ok-program.program c.in-Some.args.items c.in_ok-program.ensures.found given c.in_err-bytes.ensures.asked)

pub returns-in_err-bytes-clause-input : goal.returns-in_err-bytes-clause-input
returns-in_err-bytes-clause-input g c =
    let given : args_for c.in_ok-program.program (words_of c.args.words.now) ≡ Some c.in-Some.args.items = search rules in
    input_place (g.S.Store.content c.args.store.now) c.args.file.now c.args.steps (words_of c.args.words.now) (g.I.Source.content c.args.input.now) (g.I.Source.content c.input_of.new.input) (g.I.Source.faults c.args.input.now) (g.I.Source.faults c.input_of.new.input) c.in_ok-program.program
    c.in-Some.args.items c.in_ok-program.ensures.found given c.input_of.ensures.untouched

pub returns-in_err-served-clause-input : goal.returns-in_err-served-clause-input
returns-in_err-served-clause-input g c =
    let given : args_for c.in_ok-program.program (words_of c.args.words.now) ≡ Some c.in-Some.args.items = search rules in
    input_place (g.S.Store.content c.args.store.now) c.args.file.now c.args.steps (words_of c.args.words.now) (g.I.Source.content c.args.input.now) (g.I.Source.content c.input_of.new.input) (g.I.Source.faults c.args.input.now) (g.I.Source.faults c.input_of.new.input) c.in_ok-program.program
    c.in-Some.args.items c.in_ok-program.ensures.found given c.input_of.ensures.untouched

pub returns-clause-input : goal.returns-clause-input
returns-clause-input g c =
    let given : args_for c.in_ok-program.program (words_of c.args.words.now) ≡ Some c.in-Some.args.items = search rules in
    input_place (g.S.Store.content c.args.store.now) c.args.file.now c.args.steps (words_of c.args.words.now) (g.I.Source.content c.args.input.now) (g.I.Source.content c.input_of.new.input) (g.I.Source.faults c.args.input.now) (g.I.Source.faults c.input_of.new.input) c.in_ok-program.program
    c.in-Some.args.items c.in_ok-program.ensures.found given c.input_of.ensures.untouched

pub returns-clause-answer : goal.returns-clause-answer
returns-clause-answer g c =
    let given : args_for c.in_ok-program.program (words_of c.args.words.now) ≡ Some c.in-Some.args.items = search rules in
    run_ended (g.S.Store.content c.args.store.now) c.args.file.now c.args.steps (words_of c.args.words.now) (g.I.Source.content c.args.input.now) c.in_ok-program.program
    c.in-Some.args.items c.in_ok-bytes.bytes.items c.in_ok-served.served c.in_ok-program.ensures.found given c.in_ok-bytes.ensures.is
    (c.in_ok-served.ensures.served
    ∙ ap (λ (args : List Arg). run_served c.in_ok-program.program c.args.steps (ends c.in_ok-program.program c.args.steps args c.in_ok-bytes.bytes.items)) c.deref.ensures.value)
