use Rattle.std.proofs.Common.{sym, subst, ◌∙◌, refl}
use Rattle.std.proofs.lemmas.Result.{err_from_is_err_and}
use Rattle.cv_reading.specs.Deep.{more_onto}
use Rattle.cv_text.specs.declared.token.Sign.TheVariants as sign
use Rattle.cv_text.specs.Given.{from}
use Rattle.cv_text.specs.Nested.{FailsNested}
use Rattle.cv_text.specs.ContractReader.{later_items, item}
use Rattle.cv_text.proofs.ContractAtoms.{reads_item}
use Rattle.cv_text.proofs.ContractLists.{items_end, items_go, items_err, items_shrink}
use Rattle.cv_text.proofs.contract.item_list_onto.Goals as goal

pub returns-in-None : goal.returns-in-None
returns-in-None c = sym c.loop-items.invariant ∙ items_end sign.Comma reads_item refl c.loop-items.items (from c.args.text.now c.loop-items.here) c.in-None.ensures

pub returns-in_err-found-in-Some : goal.returns-in_err-found-in-Some
returns-in_err-found-in-Some c =
    let p = err_from_is_err_and c.from_residual.result c.from_residual.ensures.1 in
    let f : FailsNested c.args.text.now c.in_err-found-in-Some.field-0.0 (more_onto c.loop-items.items (later_items sign.Comma item) (from c.args.text.now c.loop-items.here)) = items_err sign.Comma reads_item refl c.args.text.now c.in_err-found-in-Some.field-0.0 c.loop-items.items (from c.args.text.now c.loop-items.here) (from c.args.text.now c.in-Some.behind) c.in-Some.ensures c.in_err-found-in-Some.ensures in
    rw (p.1, p.2) (subst (λ o. FailsNested c.args.text.now c.in_err-found-in-Some.field-0.0 o) c.loop-items.invariant f)

pub loop-items-smaller : goal.loop-items-smaller
loop-items-smaller c = items_shrink sign.Comma reads_item refl (from c.args.text.now c.loop-items.here) (from c.args.text.now c.in-Some.behind) c.in_ok-found-in-Some.found (from c.args.text.now c.in_ok-found-in-Some.after) c.in-Some.ensures c.in_ok-found-in-Some.ensures

pub loop-items-preserved : goal.loop-items-preserved
loop-items-preserved c =
    let e = items_go sign.Comma reads_item refl c.loop-items.items (from c.args.text.now c.loop-items.here) (from c.args.text.now c.in-Some.behind) c.in_ok-found-in-Some.found (from c.args.text.now c.in_ok-found-in-Some.after) c.in-Some.ensures c.in_ok-found-in-Some.ensures in
    rw c.in_ok-push-in-Some.ensures.ok (sym e ∙ c.loop-items.invariant)
