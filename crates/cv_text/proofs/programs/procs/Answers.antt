use Rattle.std.proofs.Common.{sym, subst, ◌∙◌}
use Rattle.std.proofs.lemmas.Result.{err_from_is_err_and}
use Rattle.cv_text.specs.Given.{from}
use Rattle.cv_text.specs.Nested.{FailsNested}
use Rattle.cv_text.specs.ProgramReader.{procs, procs_onto}
use Rattle.cv_text.specs.ContractReader.{contract}
use Rattle.cv_text.proofs.ProcLoop.{ends, goes, fails, shrinks}
use Rattle.cv_text.proofs.programs.procs.Goals as goal

pub returns-in_default : goal.returns-in_default
unfolding procs
returns-in_default c = sym c.loop-line.invariant ∙ ends c.loop-line.procs (from c.args.text.now c.loop-line.here) c.in_default.ensures

pub returns-in_err-proc : goal.returns-in_err-proc
unfolding procs
returns-in_err-proc c =
    let p = err_from_is_err_and c.from_residual.result c.from_residual.ensures.1 in
    let f : FailsNested c.args.text.now c.in_err-proc.field-0.0 (procs_onto contract c.loop-line.procs (from c.args.text.now c.loop-line.here)) = fails c.args.text.now c.in_err-proc.field-0.0 c.loop-line.procs (from c.args.text.now c.loop-line.here) c.in-Some.line (from c.args.text.now c.in-Some.behind) c.in-Some.ensures c.in_err-proc.ensures in
    rw (p.1, p.2) (subst (λ o. FailsNested c.args.text.now c.in_err-proc.field-0.0 o) c.loop-line.invariant f)

pub loop-line-smaller : goal.loop-line-smaller
loop-line-smaller c = shrinks (from c.args.text.now c.loop-line.here) c.in-Some.line (from c.args.text.now c.in-Some.behind) c.in_ok-proc.proc (from c.args.text.now c.in_ok-proc.after) c.in-Some.ensures c.in_ok-proc.ensures

pub loop-line-preserved : goal.loop-line-preserved
loop-line-preserved c =
    let k = goes c.loop-line.procs (from c.args.text.now c.loop-line.here) c.in-Some.line (from c.args.text.now c.in-Some.behind) c.in_ok-proc.proc (from c.args.text.now c.in_ok-proc.after) c.in-Some.ensures c.in_ok-proc.ensures in
    rw c.in_ok-push.ensures.ok (sym k ∙ c.loop-line.invariant)
