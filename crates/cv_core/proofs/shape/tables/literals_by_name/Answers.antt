use Rattle.std.proofs.Common.{◌≡◌, ◌-◌, ◌<◌, suc, length, arith, refl}
use Rattle.cv_core.specs.declared.program.Literal.{Literal}
use Rattle.cv_core.specs.declared.shape.names.Meant.TheVariants as meant
use Rattle.cv_core.proofs.Found.{found_put}
use Rattle.cv_core.proofs.shape.tables.literals_by_name.Goals as goal

pub loop-at-preserved : goal.loop-at-preserved
loop-at-preserved c =
    let next : c.loop-at.at ≡ suc (c.loop-at.at - 1) = omega arith in
    let inside : c.loop-at.at - 1 < length c.as_slice-literals.result.now = omega arith in
    record {
      within = omega arith;
      found = λ x.
          found_put (λ (g : Literal). g.name) (λ g. meant.Buffer) _ _ _ _ _ x _ _ _ _ next inside c.index-literals-at.is c.as_slice.ensures refl
          (c.in_ok-put.ensures x) (c.loop-at.invariant.found x);
    }
