use Rattle.std.proofs.Common.{subst, sym, ◌∙◌}
use Rattle.cv_cert.specs.declared.fault.ReadError.{ReadError}
use Rattle.cv_cert.specs.Reading.{lines_in, all_by, FailsAll}
use Rattle.cv_cert.specs.Lines.{certificate}
use Rattle.cv_cert.proofs.WholeText.{read_is, left_fits, none_is, wrong_line, one_text}
use Rattle.cv_cert.proofs.read.read_cert.Goals as goal

pub invariant_of-result : goal.invariant_of-result
invariant_of-result c = (read_is c.args.text.now _ c.in-Ok.ensures).0

pub returns-in-Ok-clause-value : goal.returns-in-Ok-clause-value
returns-in-Ok-clause-value c = read_is c.args.text.now _ c.in-Ok.ensures

pub line_number-requires-clause-left : goal.line_number-requires-clause-left
line_number-requires-clause-left c =
    let f = subst (λ (e : ReadError). FailsAll e (all_by (certificate (lines_in c.args.text.now)))) c.in-Err-Fault.field-0-is c.in-Err-Fault.ensures in
    left_fits c.args.text.now c.in-Err-Fault.left f

pub returns-in-Err-Fault-clause-none : goal.returns-in-Err-Fault-clause-none
returns-in-Err-Fault-clause-none c =
    let f = subst (λ (e : ReadError). FailsAll e (all_by (certificate (lines_in c.args.text.now)))) c.in-Err-Fault.field-0-is c.in-Err-Fault.ensures in
    none_is c.args.text.now c.in-Err-Fault.left f

pub returns-in-Err-Fault-clause-line : goal.returns-in-Err-Fault-clause-line
returns-in-Err-Fault-clause-line c =
    let f = subst (λ (e : ReadError). FailsAll e (all_by (certificate (lines_in c.args.text.now)))) c.in-Err-Fault.field-0-is c.in-Err-Fault.ensures in
    wrong_line c.args.text.now c.in-Err-Fault.left c.line_number.result f c.line_number.ensures

pub returns-in-Ok-clause-again : goal.returns-in-Ok-clause-again
returns-in-Ok-clause-again c = λ d h is.
    (let k = read_is c.args.text.now _ c.in-Ok.ensures in one_text _ d k.0 h (sym k.1 ∙ is))

pub returns-in-Err-Fault-clause-again : goal.returns-in-Err-Fault-clause-again
returns-in-Err-Fault-clause-again c = λ d h is.
    (let f = subst (λ (e : ReadError). FailsAll e (all_by (certificate (lines_in c.args.text.now)))) c.in-Err-Fault.field-0-is c.in-Err-Fault.ensures in absurd (none_is c.args.text.now c.in-Err-Fault.left f d h is))
