use Rattle.std.proofs.Common.{sym, subst, ◌∙◌}
use Rattle.std.proofs.lemmas.Result.{err_from_is_err_and}
use Rattle.cv_reading.specs.Deep.{more_onto}
use Rattle.cv_text.specs.Given.{from}
use Rattle.cv_text.specs.Nested.{FailsNested}
use Rattle.cv_text.specs.ContractReader.{later_parts}
use Rattle.cv_text.proofs.ContractSums.{parts_end, parts_go, parts_err, parts_shrink}
use Rattle.cv_text.proofs.sums.parts_onto.Goals as goal

pub returns-in-None : goal.returns-in-None
returns-in-None c = sym c.loop-parts.invariant ∙ parts_end c.loop-parts.parts (from c.args.text.now c.loop-parts.here) c.in-None.ensures

pub returns-in_err-found-in-Some : goal.returns-in_err-found-in-Some
returns-in_err-found-in-Some c =
    let p = err_from_is_err_and c.from_residual.result c.from_residual.ensures.1 in
    let f : FailsNested c.args.text.now c.in_err-found-in-Some.field-0.0 (more_onto c.loop-parts.parts later_parts (from c.args.text.now c.loop-parts.here)) = parts_err c.args.text.now c.in_err-found-in-Some.field-0.0 c.loop-parts.parts (from c.args.text.now c.loop-parts.here) c.in-Some.negative (from c.args.text.now c.in-Some.behind) c.in-Some.ensures c.in_err-found-in-Some.ensures in
    rw (p.1, p.2) (subst (λ o. FailsNested c.args.text.now c.in_err-found-in-Some.field-0.0 o) c.loop-parts.invariant f)

pub loop-parts-smaller : goal.loop-parts-smaller
loop-parts-smaller c = parts_shrink (from c.args.text.now c.loop-parts.here) c.in-Some.negative (from c.args.text.now c.in-Some.behind) c.in_ok-found-in-Some.found (from c.args.text.now c.in_ok-found-in-Some.after) c.in-Some.ensures c.in_ok-found-in-Some.ensures

pub loop-parts-preserved : goal.loop-parts-preserved
loop-parts-preserved c =
    let e = parts_go c.loop-parts.parts (from c.args.text.now c.loop-parts.here) c.in-Some.negative (from c.args.text.now c.in-Some.behind) c.in_ok-found-in-Some.found (from c.args.text.now c.in_ok-found-in-Some.after) c.in-Some.ensures c.in_ok-found-in-Some.ensures in
    rw c.in_ok-push-in-Some.ensures.ok (sym e ∙ c.loop-parts.invariant)
