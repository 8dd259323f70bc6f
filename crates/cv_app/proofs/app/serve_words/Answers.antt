use Rattle.std.proofs.Common.{rules, ◌≡◌, ◌≢◌, ℕ, List, [], Some, IfSome}
use Rattle.cv_app.specs.declared.served.Served.{Served}
use Rattle.cv_app.specs.Answers.{Answers}
use Rattle.cv_app.specs.Commands.{command_of, words_of}
use Rattle.cv_app.specs.Sinks.{IsSettled, Answered, Becomes}
use Rattle.cv_app.proofs.ServedLemmas.{exactly_at, served_answer, served_exactly, told_command}
use Rattle.cv_app.proofs.app.serve_words.Goals as goal

pub returns-clause-exactly : goal.returns-clause-exactly
returns-clause-exactly g c =
    let served : Served = record { status = c.cssv-status.result; out = c.in_ok-from_slice-2.field-0; errs = c.in_ok-from_slice-3.field-0 } in
    let told = exactly_at (g.S.Store.content c.args.store.now) _ (command_of (Some c.args.input.now) (words_of c.args.words.now)) c.cssv-status.result _ _ (Some []) (Some served.out) c.cssv-status.ensures.exactly (search rules) (search rules) (search rules) in
    served_exactly (g.S.Store.content c.args.store.now) (command_of (Some c.args.input.now) (words_of c.args.words.now)) served (search rules) (search rules)
    told (search rules) (told_command c.args.input.now (words_of c.args.words.now))

pub returns-clause-answered : goal.returns-clause-answered
returns-clause-answered g c =
    let served : Served = record { status = c.cssv-status.result; out = c.in_ok-from_slice-2.field-0; errs = c.in_ok-from_slice-3.field-0 } in
    served_answer (g.S.Store.content c.args.store.now) (command_of (Some c.args.input.now) (words_of c.args.words.now)) served (search rules)
