use Rattle.std.proofs.Common.{◌≡◌, ◌-◌, ◌<◌, suc, length, arith}
use Rattle.cv_core.specs.Meant.{meant_by_global}
use Rattle.cv_core.specs.declared.program.GlobalDecl.{GlobalDecl}
use Rattle.cv_core.proofs.Found.{found_put}
use Rattle.cv_core.proofs.shape.tables.globals_by_name.Goals as goal

pub loop-at-preserved : goal.loop-at-preserved
loop-at-preserved c =
    let next : c.loop-at.at ≡ suc (c.loop-at.at - 1) = omega arith in
    let inside : c.loop-at.at - 1 < length c.as_slice-globals.result.now = omega arith in
    record {
      within = omega arith;
      found = λ x.
          found_put (λ (g : GlobalDecl). g.name) (λ g. meant_by_global g.body) _ _ _ _ _ x _ _ _ _ next inside c.index-globals-at.is c.as_slice.ensures
          c.meant_by_global.ensures (c.in_ok-put.ensures x) (c.loop-at.invariant.found x);
    }
