use Rattle.std.proofs.Common.{◌≡◌, ◌-◌, ◌<◌, suc, length, arith, refl, true, ap, ◌∙◌}
use Rattle.cv_core.specs.Names.{Name}
use Rattle.std.specs.List.{list_any}
use Rattle.std.specs.Option.{is_some}
use Rattle.std.specs.Str.{bytes_eq}
use Rattle.cv_core.proofs.Found.{found_put, found_any, from_place}
use Rattle.cv_core.proofs.shape.tables.listed_by_name.Goals as goal

pub loop-at-preserved : goal.loop-at-preserved
loop-at-preserved c =
    let next : c.loop-at.at ≡ suc (c.loop-at.at - 1) = omega arith in
    let inside : c.loop-at.at - 1 < length c.as_slice-listed.result.now = omega arith in
    record {
      within = omega arith;
      found = λ x.
          found_put (λ (g : Name). g) (λ g. true) _ _ _ _ _ x _ _ _ _ next inside c.index-listed-at.is c.as_slice.ensures refl
          (c.in_ok-put.ensures x) (c.loop-at.invariant.found x);
    }

pub returns : goal.returns
returns c = λ x.
    let done : c.loop-at.at ≡ 0 = omega arith in
    ap is_some (c.loop-at.invariant.found x ∙ ap (λ n. from_place (λ (g : Name). g) (λ g. true) c.as_slice-listed.result.now n x) done)
    ∙ found_any (λ (g : Name). true) (λ (g : Name). bytes_eq g x) c.as_slice-listed.result.now
    ∙ ap (λ ns. list_any (λ (g : Name). bytes_eq g x) ns) c.as_slice-listed.ensures
