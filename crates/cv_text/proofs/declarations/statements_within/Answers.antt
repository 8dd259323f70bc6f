use Rattle.std.proofs.Common.{ℕ, Bool, List, sym, ap, subst, ◌∙◌}
use Rattle.std.proofs.lemmas.Result.{err_from_is_err_and}
use Rattle.cv_text.specs.Given.{from, Fails}
use Rattle.cv_text.specs.DeclarationReader.{statements}
use Rattle.cv_text.proofs.declarations.statements_within.Goals as goal

pub returns-in_err-stmts : goal.returns-in_err-stmts
returns-in_err-stmts c =
    let p = err_from_is_err_and c.from_residual-in_err-stmts.result c.from_residual-in_err-stmts.ensures.1 in
    rw (p.1, p.2) (subst (λ (t : List ℕ → Bool). Fails c.args.text.now c.in_err-stmts.field-0.0 (statements t (from c.args.text.now c.args.at))) c.in_ok-scope.ensures c.in_err-stmts.ensures)

pub returns : goal.returns
returns c = ap (λ (t : List ℕ → Bool). statements t (from c.args.text.now c.args.at)) (sym c.in_ok-scope.ensures) ∙ c.in_ok-stmts.ensures
