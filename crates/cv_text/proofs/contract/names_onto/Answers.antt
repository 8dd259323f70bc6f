use Rattle.std.proofs.Common.{sym, subst, ◌∙◌, refl}
use Rattle.std.proofs.lemmas.Result.{err_from_is_err_and}
use Rattle.cv_reading.specs.Deep.{more_onto, plain}
use Rattle.cv_text.specs.Reader.{a_name}
use Rattle.cv_text.specs.declared.token.Sign.TheVariants as sign
use Rattle.cv_text.specs.Given.{from}
use Rattle.cv_text.specs.Nested.{FailsNested}
use Rattle.cv_text.specs.ContractReader.{later_items}
use Rattle.cv_text.proofs.ContractLists.{items_end, items_go, items_err, items_shrink, name_law}
use Rattle.cv_text.proofs.contract.names_onto.Goals as goal

pub returns-in-None : goal.returns-in-None
returns-in-None c = sym c.loop-names.invariant ∙ items_end sign.Comma name_law refl c.loop-names.names (from c.args.text.now c.loop-names.here) c.in-None.ensures

pub returns-in_err-found-in-Some : goal.returns-in_err-found-in-Some
returns-in_err-found-in-Some c =
    let p = err_from_is_err_and c.from_residual.result c.from_residual.ensures.1 in
    let f : FailsNested c.args.text.now c.in_err-found-in-Some.field-0.0 (more_onto c.loop-names.names (later_items sign.Comma (plain a_name)) (from c.args.text.now c.loop-names.here)) = items_err sign.Comma name_law refl c.args.text.now c.in_err-found-in-Some.field-0.0 c.loop-names.names (from c.args.text.now c.loop-names.here) (from c.args.text.now c.in-Some.behind) c.in-Some.ensures c.in_err-found-in-Some.ensures in
    rw (p.1, p.2) (subst (λ o. FailsNested c.args.text.now c.in_err-found-in-Some.field-0.0 o) c.loop-names.invariant f)

pub loop-names-smaller : goal.loop-names-smaller
loop-names-smaller c = items_shrink sign.Comma name_law refl (from c.args.text.now c.loop-names.here) (from c.args.text.now c.in-Some.behind) c.in_ok-found-in-Some.found (from c.args.text.now c.in_ok-found-in-Some.after) c.in-Some.ensures c.in_ok-found-in-Some.ensures

pub loop-names-preserved : goal.loop-names-preserved
loop-names-preserved c =
    let e = items_go sign.Comma name_law refl c.loop-names.names (from c.args.text.now c.loop-names.here) (from c.args.text.now c.in-Some.behind) c.in_ok-found-in-Some.found (from c.args.text.now c.in_ok-found-in-Some.after) c.in-Some.ensures c.in_ok-found-in-Some.ensures in
    rw c.in_ok-push-in-Some.ensures.ok (sym e ∙ c.loop-names.invariant)
