use Rattle.std.proofs.Common.{Bool, ◌⊎◌, refl, subst}
use Rattle.cv_app.specs.declared.fault.Fault.TheVariants.{Usage}
use Rattle.cv_app.specs.Answers.{ReadsIn}
use Rattle.cv_app.specs.Commands.{Command, Unknown, words_of}
use Rattle.cv_app.specs.Sinks.{IsUntouched, Answered, RefusesBy}
use Rattle.cv_app.proofs.OneAnswer.{Exactly}
use Rattle.cv_app.proofs.Outcomes.{refused_so}
use Rattle.cv_app.proofs.WordLemmas.{clean_file, no_core, no_run}
use Rattle.cv_app.proofs.app.cssv.Goals as goal

pub returns-in-Check-clause-exactly : goal.returns-in-Check-clause-exactly
returns-in-Check-clause-exactly g c =
    subst (λ (command : Command). Exactly (g.S.Store.content c.args.store.now) command c.check.result (g.O.Sink.content c.args.out.now) (g.O.Sink.content c.check.new.out)) (c.in-Check.ensures (g.I.Source.content c.args.input.now))
    c.check.ensures.exactly

pub returns-in-Core-clause-exactly : goal.returns-in-Core-clause-exactly
returns-in-Core-clause-exactly g c =
    subst (λ (command : Command). Exactly (g.S.Store.content c.args.store.now) command c.print_command.result (g.O.Sink.content c.args.out.now) (g.O.Sink.content c.print_command.new.out)) (c.in-Core.ensures (g.I.Source.content c.args.input.now))
    c.print_command.ensures.exactly

pub returns-in-Run-clause-exactly : goal.returns-in-Run-clause-exactly
returns-in-Run-clause-exactly g c =
    subst (λ (command : Command). Exactly (g.S.Store.content c.args.store.now) command c.run.result (g.O.Sink.content c.args.out.now) (g.O.Sink.content c.run.new.out)) (c.in-Run.ensures (g.I.Source.content c.args.input.now))
    c.run.ensures.exactly

pub returns-in-Run-clause-input : goal.returns-in-Run-clause-input
returns-in-Run-clause-input g c =
    subst (λ (command : Command). ReadsIn (g.S.Store.content c.args.store.now) command ⊎ IsUntouched (g.I.Source.content c.args.input.now) (g.I.Source.content c.run.new.input) (g.I.Source.faults c.args.input.now) (g.I.Source.faults c.run.new.input))
    (c.in-Run.ensures (g.I.Source.content c.args.input.now)) c.run.ensures.input

pub returns-in-Unknown-clause-answered : goal.returns-in-Unknown-clause-answered
returns-in-Unknown-clause-answered g c = λ calm.
    subst (λ (command : Command). Answered (g.S.Store.content c.args.store.now) command c.report.result (g.O.Sink.content c.args.out.now) (g.O.Sink.content c.args.out.now)
    (g.E.Sink.content c.args.errs.now) (g.E.Sink.content c.report.new.errs) (g.E.Sink.faults c.args.errs.now) (g.E.Sink.faults c.report.new.errs)) (c.in-Unknown.ensures (g.I.Source.content c.args.input.now))
    ((refused_so Bool (g.S.Store.content c.args.store.now) Unknown Usage c.report.result (g.O.Sink.content c.args.out.now) (g.E.Sink.content c.args.errs.now) (g.E.Sink.content c.report.new.errs) (g.E.Sink.faults c.args.errs.now) (g.E.Sink.faults c.report.new.errs) tt refl c.report.ensures).answered calm)

pub returns-in-Unknown-clause-exactly : goal.returns-in-Unknown-clause-exactly
returns-in-Unknown-clause-exactly g c =
    subst (λ (command : Command). Exactly (g.S.Store.content c.args.store.now) command c.report.result (g.O.Sink.content c.args.out.now) (g.O.Sink.content c.args.out.now)) (c.in-Unknown.ensures (g.I.Source.content c.args.input.now))
    (refused_so Bool (g.S.Store.content c.args.store.now) Unknown Usage c.report.result (g.O.Sink.content c.args.out.now) (g.E.Sink.content c.args.errs.now) (g.E.Sink.content c.report.new.errs) (g.E.Sink.faults c.args.errs.now) (g.E.Sink.faults c.report.new.errs) tt refl c.report.ensures).exactly

pub returns-in-Unknown-clause-errs : goal.returns-in-Unknown-clause-errs
returns-in-Unknown-clause-errs g c =
    subst (λ (command : Command). RefusesBy command c.report.result (g.E.Sink.content c.args.errs.now) (g.E.Sink.content c.report.new.errs)
    (g.E.Sink.faults c.args.errs.now) (g.E.Sink.faults c.report.new.errs)) (c.in-Unknown.ensures (g.I.Source.content c.args.input.now))
    (refused_so Bool (g.S.Store.content c.args.store.now) Unknown Usage c.report.result (g.O.Sink.content c.args.out.now) (g.E.Sink.content c.args.errs.now) (g.E.Sink.content c.report.new.errs) (g.E.Sink.faults c.args.errs.now) (g.E.Sink.faults c.report.new.errs) tt refl c.report.ensures).refuses

pub returns-in-Check-clause-headline : goal.returns-in-Check-clause-headline
returns-in-Check-clause-headline g c = λ file cert words zero.
    clean_file (g.I.Source.content c.args.input.now) (words_of c.args.words.now) (g.S.Store.content c.args.store.now) file cert c.in-Check.file.now c.in-Check.cert.now words
    (c.in-Check.ensures (g.I.Source.content c.args.input.now)) (c.check.ensures.headline zero)

pub returns-in-Core-clause-headline : goal.returns-in-Core-clause-headline
returns-in-Core-clause-headline g c = λ file cert words zero.
    absurd (no_core (g.I.Source.content c.args.input.now) (words_of c.args.words.now) file cert c.in-Core.file.now words (c.in-Core.ensures (g.I.Source.content c.args.input.now)))

pub returns-in-Run-clause-headline : goal.returns-in-Run-clause-headline
returns-in-Run-clause-headline g c = λ file cert words zero.
    absurd (no_run (g.I.Source.content c.args.input.now) (words_of c.args.words.now) file cert c.in-Run.file.now c.in-Run.steps (words_of c.in-Run.args.now) (g.I.Source.content c.args.input.now) words
    (c.in-Run.ensures (g.I.Source.content c.args.input.now)))
