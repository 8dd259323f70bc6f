use Rattle.std.proofs.Common.{arith, ap, Err, Result}
use Rattle.cv_app.specs.declared.fault.Fault.{Fault}
use Rattle.cv_app.specs.declared.served.Served.{Served}
use Rattle.cv_app.specs.Commands.{Run, words_of}
use Rattle.cv_app.proofs.Hindered.{at_its_place}
use Rattle.cv_app.proofs.Outcomes.{ended_so, refused_so}
use Rattle.cv_app.proofs.RunLemmas.{is_ending}
use Rattle.cv_app.proofs.run.run.Goals as goal

abbrev stopped_by : Fault → Result Served Fault
stopped_by fault = Err fault

pub returns-in-Ok : goal.returns-in-Ok
returns-in-Ok g c =
    let f = ended_so (g.S.Store.content c.args.store.now) (Run c.args.file.now c.args.steps (words_of c.args.words.now) (g.I.Source.content c.args.input.now)) c.in-Ok.served c.print_end.result (g.O.Sink.content c.args.out.now) (g.O.Sink.content c.print_end.new.out) (g.O.Sink.faults c.args.out.now) (g.O.Sink.faults c.print_end.new.out) (g.E.Sink.content c.args.errs.now) (g.E.Sink.content c.print_end.new.errs) (g.E.Sink.faults c.args.errs.now) (g.E.Sink.faults c.print_end.new.errs)
    tt tt (is_ending c.args.steps c.in-Ok.served c.in-Ok.ensures.ended) (c.in-Ok.served.errs, c.in-Ok.ensures.ended) (c.in-Ok.served.out, c.in-Ok.ensures.ended)
    c.in-Ok.ensures.answer c.print_end.ensures in
    record {
      answered = f.answered;
      ended = f.ended;
      exactly = f.exactly;
      status = f.low;
      usage = λ two. absurd (f.no_two two);
      read_fault = λ five. absurd (f.no_five five);
      write_fault = f.write_fault;
      unchanged = c.in-Ok.ensures.unchanged;
      input = c.in-Ok.ensures.input;
      out = f.prints;
      errs = f.refuses;
    }

pub returns-in-Err : goal.returns-in-Err
returns-in-Err g c =
    let f = refused_so Served (g.S.Store.content c.args.store.now) (Run c.args.file.now c.args.steps (words_of c.args.words.now) (g.I.Source.content c.args.input.now)) c.in-Err.fault c.report.result (g.O.Sink.content c.args.out.now) (g.E.Sink.content c.args.errs.now) (g.E.Sink.content c.report.new.errs) (g.E.Sink.faults c.args.errs.now) (g.E.Sink.faults c.report.new.errs)
    c.in-Err.ensures.faults c.in-Err.ensures.answer c.report.ensures in
    record {
      answered = f.answered;
      ended = f.ended;
      exactly = f.exactly;
      status = omega (arith, f.low);
      usage = λ two. c.in-Err.ensures.usage (ap stopped_by (f.usage two));
      read_fault = λ five. at_its_place (c.in-Err.ensures.read_fault (ap stopped_by (f.read_fault five))) (c.in-Err.ensures.read_place (ap stopped_by (f.read_fault five)));
      write_fault = λ six. absurd (f.no_six six);
      unchanged = c.in-Err.ensures.unchanged;
      input = c.in-Err.ensures.input;
      out = f.prints;
      errs = f.refuses;
    }
