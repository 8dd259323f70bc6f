use Rattle.std.proofs.Common.{◌≡◌, ◌-◌, ◌<◌, suc, length, arith, ap, ◌∙◌}
use Rattle.cv_core.specs.Meant.{meant_by_local}
use Rattle.cv_core.specs.declared.program.Local.{Local}
use Rattle.cv_core.proofs.Found.{found_put, from_place}
use Rattle.cv_core.proofs.shape.tables.locals_by_name.Goals as goal

pub loop-at-preserved : goal.loop-at-preserved
loop-at-preserved c =
    let next : c.loop-at.at ≡ suc (c.loop-at.at - 1) = omega arith in
    let inside : c.loop-at.at - 1 < length c.args.locals.now = omega arith in
    record {
      within = omega arith;
      found = λ x.
          found_put (λ (g : Local). g.name) (λ g. meant_by_local g.body) _ _ _ _ _ x _ _ _ _ next inside c.index-locals-at.is c.as_slice.ensures
          c.meant_by_local.ensures (c.in_ok-put.ensures x) (c.loop-at.invariant.found x);
    }

pub returns : goal.returns
returns c = λ x.
    let done : c.loop-at.at ≡ 0 = omega arith in
    c.loop-at.invariant.found x ∙ ap (λ n. from_place (λ (g : Local). g.name) (λ g. meant_by_local g.body) c.args.locals.now n x) done
