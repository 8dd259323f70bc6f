use Rattle.std.proofs.Common.{◌≡◌, ◌-◌, ◌<◌, suc, length, arith, refl}
use Rattle.cv_core.specs.declared.program.Proc.{Proc}
use Rattle.cv_core.proofs.Found.{found_put_borrowed}
use Rattle.cv_core.proofs.shape.tables.procs_by_name.Goals as goal

pub loop-at-preserved : goal.loop-at-preserved
loop-at-preserved c =
    let next : c.loop-at.at ≡ suc (c.loop-at.at - 1) = omega arith in
    let inside : c.loop-at.at - 1 < length c.as_slice-procs.result.now = omega arith in
    record {
      within = omega arith;
      found = λ x.
          found_put_borrowed (λ (g : Proc). g.name) _ _ _ _ _ x _ _ _ _ next inside c.index-procs-at.is c.as_slice.ensures refl
          (c.in_ok-put.ensures x) (c.loop-at.invariant.found x);
    }
