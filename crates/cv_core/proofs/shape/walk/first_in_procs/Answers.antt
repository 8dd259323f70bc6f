use Rattle.std.proofs.Common.{◌≡◌, ◌∙◌, ◌+◌, ap, suc, arith}
use Rattle.std.specs.List.{slice_get}
use Rattle.cv_core.specs.Shape.{proc_faults}
use Rattle.cv_core.specs.declared.program.Proc.{Proc}
use Rattle.cv_core.specs.declared.program.Program.{Program}
use Rattle.cv_core.proofs.Walked.{next_count, next_passed, procs_found}
use Rattle.cv_core.proofs.shape.walk.first_in_procs.Goals as goal

pub returns-in-Some : goal.returns-in-Some
returns-in-Some c =
    let found =
    c.in-Some.ensures
    ∙ ap (λ (P : Program). slice_get (proc_faults P c.loop-rest.number c.in_ok-scope.scope.proc.now) 0) c.in_ok-scope.ensures.program
    ∙ ap (λ (f : Proc). slice_get (proc_faults c.args.names.now.program.now c.loop-rest.number f) 0) c.in_ok-scope.ensures.proc in
    procs_found c.args.names.now.program.now c.loop-rest.number _ _ _ _ c.in-len1-up.len_at_least c.proc-item.is found ∙ c.loop-rest.invariant.first

pub loop-rest-preserved : goal.loop-rest-preserved
loop-rest-preserved c =
    let next : c.loop-rest.number + 1 ≡ suc c.loop-rest.number = omega arith in
    let none =
    c.in-None.ensures
    ∙ ap (λ (P : Program). slice_get (proc_faults P c.loop-rest.number c.in_ok-scope.scope.proc.now) 0) c.in_ok-scope.ensures.program
    ∙ ap (λ (f : Proc). slice_get (proc_faults c.args.names.now.program.now c.loop-rest.number f) 0) c.in_ok-scope.ensures.proc in
    record {
      first = next_passed c.args.names.now.program.now c.loop-rest.number _ _ _ _ next c.in-len1-up.len_at_least c.proc-item.is none ∙ c.loop-rest.invariant.first;
      count = next_count _ c.loop-rest.number _ c.in-len1-up.len_at_least c.loop-rest.invariant.count;
    }
