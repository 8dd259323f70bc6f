use Rattle.std.proofs.Common.{Bool, Result, Ok, Err, true, false, refl, ap, subst, inl, inr, lit≤}
use Rattle.cv_app.specs.declared.fault.Fault.{Fault}
use Rattle.cv_app.specs.Answers.{Answers}
use Rattle.cv_app.specs.Commands.{Check}
use Rattle.cv_app.specs.Decided.{check_outcome}
use Rattle.cv_app.specs.Refusals.{MayRefuse}
use Rattle.cv_app.proofs.Hindered.{at_its_place}
use Rattle.cv_app.proofs.Outcomes.{printed_so, refused_so}
use Rattle.cv_app.proofs.check.check.Goals as goal

abbrev stopped_by : Fault → Result Bool Fault
stopped_by fault = Err fault

pub returns-in-Ok-true-clause-answered : goal.returns-in-Ok-true-clause-answered
returns-in-Ok-true-clause-answered g c =
    let is : Answers (g.S.Store.content c.args.store.now) (Check c.args.file.now c.args.cert.now) (check_outcome c.args.file.now (Ok true)) =
    subst (λ (accepted : Bool). Answers (g.S.Store.content c.args.store.now) (Check c.args.file.now c.args.cert.now) (check_outcome c.args.file.now (Ok accepted))) c.in-Ok-true.field-0-test c.in-Ok-true.ensures.answer in
    (printed_so (g.S.Store.content c.args.store.now) (Check c.args.file.now c.args.cert.now) (check_outcome c.args.file.now (Ok true)) c.print.result (g.O.Sink.content c.args.out.now) (g.O.Sink.content c.print.new.out) (g.O.Sink.faults c.args.out.now) (g.O.Sink.faults c.print.new.out) (g.E.Sink.content c.args.errs.now) (g.E.Sink.content c.print.new.errs) (g.E.Sink.faults c.args.errs.now) (g.E.Sink.faults c.print.new.errs)
    tt (λ run. run) refl (lit≤ tt) (inl (refl, refl)) is c.print.ensures).answered

pub returns-in-Ok-true-clause-exactly : goal.returns-in-Ok-true-clause-exactly
returns-in-Ok-true-clause-exactly g c =
    let is : Answers (g.S.Store.content c.args.store.now) (Check c.args.file.now c.args.cert.now) (check_outcome c.args.file.now (Ok true)) =
    subst (λ (accepted : Bool). Answers (g.S.Store.content c.args.store.now) (Check c.args.file.now c.args.cert.now) (check_outcome c.args.file.now (Ok accepted))) c.in-Ok-true.field-0-test c.in-Ok-true.ensures.answer in
    (printed_so (g.S.Store.content c.args.store.now) (Check c.args.file.now c.args.cert.now) (check_outcome c.args.file.now (Ok true)) c.print.result (g.O.Sink.content c.args.out.now) (g.O.Sink.content c.print.new.out) (g.O.Sink.faults c.args.out.now) (g.O.Sink.faults c.print.new.out) (g.E.Sink.content c.args.errs.now) (g.E.Sink.content c.print.new.errs) (g.E.Sink.faults c.args.errs.now) (g.E.Sink.faults c.print.new.errs)
    tt (λ run. run) refl (lit≤ tt) (inl (refl, refl)) is c.print.ensures).exactly

pub returns-in-Ok-true-clause-out : goal.returns-in-Ok-true-clause-out
returns-in-Ok-true-clause-out g c =
    let is : Answers (g.S.Store.content c.args.store.now) (Check c.args.file.now c.args.cert.now) (check_outcome c.args.file.now (Ok true)) =
    subst (λ (accepted : Bool). Answers (g.S.Store.content c.args.store.now) (Check c.args.file.now c.args.cert.now) (check_outcome c.args.file.now (Ok accepted))) c.in-Ok-true.field-0-test c.in-Ok-true.ensures.answer in
    (printed_so (g.S.Store.content c.args.store.now) (Check c.args.file.now c.args.cert.now) (check_outcome c.args.file.now (Ok true)) c.print.result (g.O.Sink.content c.args.out.now) (g.O.Sink.content c.print.new.out) (g.O.Sink.faults c.args.out.now) (g.O.Sink.faults c.print.new.out) (g.E.Sink.content c.args.errs.now) (g.E.Sink.content c.print.new.errs) (g.E.Sink.faults c.args.errs.now) (g.E.Sink.faults c.print.new.errs)
    tt (λ run. run) refl (lit≤ tt) (inl (refl, refl)) is c.print.ensures).prints

pub returns-in-Ok-true-clause-errs : goal.returns-in-Ok-true-clause-errs
returns-in-Ok-true-clause-errs g c =
    let is : Answers (g.S.Store.content c.args.store.now) (Check c.args.file.now c.args.cert.now) (check_outcome c.args.file.now (Ok true)) =
    subst (λ (accepted : Bool). Answers (g.S.Store.content c.args.store.now) (Check c.args.file.now c.args.cert.now) (check_outcome c.args.file.now (Ok accepted))) c.in-Ok-true.field-0-test c.in-Ok-true.ensures.answer in
    (printed_so (g.S.Store.content c.args.store.now) (Check c.args.file.now c.args.cert.now) (check_outcome c.args.file.now (Ok true)) c.print.result (g.O.Sink.content c.args.out.now) (g.O.Sink.content c.print.new.out) (g.O.Sink.faults c.args.out.now) (g.O.Sink.faults c.print.new.out) (g.E.Sink.content c.args.errs.now) (g.E.Sink.content c.print.new.errs) (g.E.Sink.faults c.args.errs.now) (g.E.Sink.faults c.print.new.errs)
    tt (λ run. run) refl (lit≤ tt) (inl (refl, refl)) is c.print.ensures).refuses

pub returns-in-Ok-false-clause-answered : goal.returns-in-Ok-false-clause-answered
returns-in-Ok-false-clause-answered g c =
    let is : Answers (g.S.Store.content c.args.store.now) (Check c.args.file.now c.args.cert.now) (check_outcome c.args.file.now (Ok false)) =
    subst (λ (accepted : Bool). Answers (g.S.Store.content c.args.store.now) (Check c.args.file.now c.args.cert.now) (check_outcome c.args.file.now (Ok accepted))) c.in-Ok-false.field-0-test c.in-Ok-false.ensures.answer in
    (printed_so (g.S.Store.content c.args.store.now) (Check c.args.file.now c.args.cert.now) (check_outcome c.args.file.now (Ok false)) c.print-in-Ok-false.result (g.O.Sink.content c.args.out.now) (g.O.Sink.content c.print-in-Ok-false.new.out) (g.O.Sink.faults c.args.out.now) (g.O.Sink.faults c.print-in-Ok-false.new.out) (g.E.Sink.content c.args.errs.now) (g.E.Sink.content c.print-in-Ok-false.new.errs) (g.E.Sink.faults c.args.errs.now) (g.E.Sink.faults c.print-in-Ok-false.new.errs)
    tt (λ run. run) refl (lit≤ tt) (inr (refl, refl)) is c.print-in-Ok-false.ensures).answered

pub returns-in-Ok-false-clause-exactly : goal.returns-in-Ok-false-clause-exactly
returns-in-Ok-false-clause-exactly g c =
    let is : Answers (g.S.Store.content c.args.store.now) (Check c.args.file.now c.args.cert.now) (check_outcome c.args.file.now (Ok false)) =
    subst (λ (accepted : Bool). Answers (g.S.Store.content c.args.store.now) (Check c.args.file.now c.args.cert.now) (check_outcome c.args.file.now (Ok accepted))) c.in-Ok-false.field-0-test c.in-Ok-false.ensures.answer in
    (printed_so (g.S.Store.content c.args.store.now) (Check c.args.file.now c.args.cert.now) (check_outcome c.args.file.now (Ok false)) c.print-in-Ok-false.result (g.O.Sink.content c.args.out.now) (g.O.Sink.content c.print-in-Ok-false.new.out) (g.O.Sink.faults c.args.out.now) (g.O.Sink.faults c.print-in-Ok-false.new.out) (g.E.Sink.content c.args.errs.now) (g.E.Sink.content c.print-in-Ok-false.new.errs) (g.E.Sink.faults c.args.errs.now) (g.E.Sink.faults c.print-in-Ok-false.new.errs)
    tt (λ run. run) refl (lit≤ tt) (inr (refl, refl)) is c.print-in-Ok-false.ensures).exactly

pub returns-in-Ok-false-clause-out : goal.returns-in-Ok-false-clause-out
returns-in-Ok-false-clause-out g c =
    let is : Answers (g.S.Store.content c.args.store.now) (Check c.args.file.now c.args.cert.now) (check_outcome c.args.file.now (Ok false)) =
    subst (λ (accepted : Bool). Answers (g.S.Store.content c.args.store.now) (Check c.args.file.now c.args.cert.now) (check_outcome c.args.file.now (Ok accepted))) c.in-Ok-false.field-0-test c.in-Ok-false.ensures.answer in
    (printed_so (g.S.Store.content c.args.store.now) (Check c.args.file.now c.args.cert.now) (check_outcome c.args.file.now (Ok false)) c.print-in-Ok-false.result (g.O.Sink.content c.args.out.now) (g.O.Sink.content c.print-in-Ok-false.new.out) (g.O.Sink.faults c.args.out.now) (g.O.Sink.faults c.print-in-Ok-false.new.out) (g.E.Sink.content c.args.errs.now) (g.E.Sink.content c.print-in-Ok-false.new.errs) (g.E.Sink.faults c.args.errs.now) (g.E.Sink.faults c.print-in-Ok-false.new.errs)
    tt (λ run. run) refl (lit≤ tt) (inr (refl, refl)) is c.print-in-Ok-false.ensures).prints

pub returns-in-Ok-false-clause-errs : goal.returns-in-Ok-false-clause-errs
returns-in-Ok-false-clause-errs g c =
    let is : Answers (g.S.Store.content c.args.store.now) (Check c.args.file.now c.args.cert.now) (check_outcome c.args.file.now (Ok false)) =
    subst (λ (accepted : Bool). Answers (g.S.Store.content c.args.store.now) (Check c.args.file.now c.args.cert.now) (check_outcome c.args.file.now (Ok accepted))) c.in-Ok-false.field-0-test c.in-Ok-false.ensures.answer in
    (printed_so (g.S.Store.content c.args.store.now) (Check c.args.file.now c.args.cert.now) (check_outcome c.args.file.now (Ok false)) c.print-in-Ok-false.result (g.O.Sink.content c.args.out.now) (g.O.Sink.content c.print-in-Ok-false.new.out) (g.O.Sink.faults c.args.out.now) (g.O.Sink.faults c.print-in-Ok-false.new.out) (g.E.Sink.content c.args.errs.now) (g.E.Sink.content c.print-in-Ok-false.new.errs) (g.E.Sink.faults c.args.errs.now) (g.E.Sink.faults c.print-in-Ok-false.new.errs)
    tt (λ run. run) refl (lit≤ tt) (inr (refl, refl)) is c.print-in-Ok-false.ensures).refuses

pub returns-in-Err : goal.returns-in-Err
returns-in-Err g c =
    let f = refused_so Bool (g.S.Store.content c.args.store.now) (Check c.args.file.now c.args.cert.now) c.in-Err.fault c.report.result (g.O.Sink.content c.args.out.now) (g.E.Sink.content c.args.errs.now) (g.E.Sink.content c.report.new.errs) (g.E.Sink.faults c.args.errs.now) (g.E.Sink.faults c.report.new.errs)
    c.in-Err.ensures.faults c.in-Err.ensures.answer c.report.ensures in
    record {
      headline = λ zero. absurd (f.no_zero zero);
      answered = f.answered;
      exactly = f.exactly;
      status = f.low;
      no_usage = λ two. subst (MayRefuse (Check c.args.file.now c.args.cert.now)) (f.usage two) c.in-Err.ensures.faults;
      read_fault = λ five. at_its_place (c.in-Err.ensures.read_fault (ap stopped_by (f.read_fault five))) (c.in-Err.ensures.read_place (ap stopped_by (f.read_fault five)));
      write_fault = λ six. absurd (f.no_six six);
      unchanged = c.in-Err.ensures.unchanged;
      out = f.prints;
      errs = f.refuses;
    }
