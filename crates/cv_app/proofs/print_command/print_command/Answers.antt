use Rattle.std.proofs.Common.{Vec, ℕ, Result, Err, refl, ap, subst, lit≤}
use Rattle.std.specs.declared.alloc.Global.{Global}
use Rattle.cv_app.specs.declared.fault.Fault.{Fault}
use Rattle.cv_app.specs.Commands.{Core}
use Rattle.cv_app.specs.Refusals.{MayRefuse}
use Rattle.cv_app.specs.Served.{printed}
use Rattle.cv_app.proofs.Outcomes.{printed_so, refused_so}
use Rattle.cv_app.proofs.print_command.print_command.Goals as goal

abbrev stopped_by : Fault → Result (Vec ℕ Global) Fault
stopped_by fault = Err fault

pub returns-in-Ok-clause-answered : goal.returns-in-Ok-clause-answered
returns-in-Ok-clause-answered g c =
    (printed_so (g.S.Store.content c.args.store.now) (Core c.args.file.now) (printed 0 c.in-Ok.text.items) c.print.result (g.O.Sink.content c.args.out.now) (g.O.Sink.content c.print.new.out) (g.O.Sink.faults c.args.out.now) (g.O.Sink.faults c.print.new.out) (g.E.Sink.content c.args.errs.now) (g.E.Sink.content c.print.new.errs) (g.E.Sink.faults c.args.errs.now) (g.E.Sink.faults c.print.new.errs)
    tt (λ run. run) refl (lit≤ tt) (refl, c.in-Ok.ensures.text) c.in-Ok.ensures.answer (rw c.deref.ensures.value at c.print.ensures)).answered

pub returns-in-Ok-clause-exactly : goal.returns-in-Ok-clause-exactly
returns-in-Ok-clause-exactly g c =
    (printed_so (g.S.Store.content c.args.store.now) (Core c.args.file.now) (printed 0 c.in-Ok.text.items) c.print.result (g.O.Sink.content c.args.out.now) (g.O.Sink.content c.print.new.out) (g.O.Sink.faults c.args.out.now) (g.O.Sink.faults c.print.new.out) (g.E.Sink.content c.args.errs.now) (g.E.Sink.content c.print.new.errs) (g.E.Sink.faults c.args.errs.now) (g.E.Sink.faults c.print.new.errs)
    tt (λ run. run) refl (lit≤ tt) (refl, c.in-Ok.ensures.text) c.in-Ok.ensures.answer (rw c.deref.ensures.value at c.print.ensures)).exactly

pub returns-in-Ok-clause-out : goal.returns-in-Ok-clause-out
returns-in-Ok-clause-out g c =
    (printed_so (g.S.Store.content c.args.store.now) (Core c.args.file.now) (printed 0 c.in-Ok.text.items) c.print.result (g.O.Sink.content c.args.out.now) (g.O.Sink.content c.print.new.out) (g.O.Sink.faults c.args.out.now) (g.O.Sink.faults c.print.new.out) (g.E.Sink.content c.args.errs.now) (g.E.Sink.content c.print.new.errs) (g.E.Sink.faults c.args.errs.now) (g.E.Sink.faults c.print.new.errs)
    tt (λ run. run) refl (lit≤ tt) (refl, c.in-Ok.ensures.text) c.in-Ok.ensures.answer (rw c.deref.ensures.value at c.print.ensures)).prints

pub returns-in-Ok-clause-errs : goal.returns-in-Ok-clause-errs
returns-in-Ok-clause-errs g c =
    (printed_so (g.S.Store.content c.args.store.now) (Core c.args.file.now) (printed 0 c.in-Ok.text.items) c.print.result (g.O.Sink.content c.args.out.now) (g.O.Sink.content c.print.new.out) (g.O.Sink.faults c.args.out.now) (g.O.Sink.faults c.print.new.out) (g.E.Sink.content c.args.errs.now) (g.E.Sink.content c.print.new.errs) (g.E.Sink.faults c.args.errs.now) (g.E.Sink.faults c.print.new.errs)
    tt (λ run. run) refl (lit≤ tt) (refl, c.in-Ok.ensures.text) c.in-Ok.ensures.answer (rw c.deref.ensures.value at c.print.ensures)).refuses

pub returns-in-Err : goal.returns-in-Err
returns-in-Err g c =
    let f = refused_so (Vec ℕ Global) (g.S.Store.content c.args.store.now) (Core c.args.file.now) c.in-Err.fault c.report.result (g.O.Sink.content c.args.out.now) (g.E.Sink.content c.args.errs.now) (g.E.Sink.content c.report.new.errs) (g.E.Sink.faults c.args.errs.now) (g.E.Sink.faults c.report.new.errs)
    c.in-Err.ensures.faults c.in-Err.ensures.answer c.report.ensures in
    record {
      answered = f.answered;
      exactly = f.exactly;
      status = f.low;
      no_usage = λ two. subst (MayRefuse (Core c.args.file.now)) (f.usage two) c.in-Err.ensures.faults;
      read_fault = λ five. c.in-Err.ensures.read_fault (ap stopped_by (f.read_fault five));
      write_fault = λ six. absurd (f.no_six six);
      unchanged = c.in-Err.ensures.unchanged;
      out = f.prints;
      errs = f.refuses;
    }
