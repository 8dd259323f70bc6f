use Rattle.std.proofs.Common.{ℕ, ◌∙◌, sym}
use Rattle.cv_points.specs.Closed.{Family, MaybeHolds, StatementHolds, Starts, form_rule}
use Rattle.cv_points.proofs.Added.{adds_as, adds_then}
use Rattle.cv_points.proofs.collect.put_statement.Goals as goal

pub returns-in_ok-put_start : goal.returns-in_ok-put_start
returns-in_ok-put_start c =
    adds_then c.args.p.now c.args.rules.now.items c.put_form.new.rules.items c.put_start.new.rules.items
    (λ (S : Family). (n : ℕ) → MaybeHolds c.args.p.now S (form_rule c.args.p.now c.args.proc c.args.f.now c.args.statement c.args.form.now n))
    (λ (S : Family). Starts c.args.p.now S c.args.proc c.args.f.now)
    (λ (S : Family). StatementHolds c.args.p.now S c.args.proc c.args.f.now c.args.statement c.args.form.now)
    (λ S a b. record { rules = a; start = λ e. b }) (λ S h. h.rules) (λ S h. h.start (sym c.is_start.ensures ∙ c.if-is_start.true))
    c.in_ok-put_form.ensures c.in_ok-put_start.ensures

pub returns-else-is_start : goal.returns-else-is_start
returns-else-is_start c =
    adds_as c.args.p.now c.args.rules.now.items c.put_form.new.rules.items
    (λ (S : Family). (n : ℕ) → MaybeHolds c.args.p.now S (form_rule c.args.p.now c.args.proc c.args.f.now c.args.statement c.args.form.now n))
    (λ (S : Family). StatementHolds c.args.p.now S c.args.proc c.args.f.now c.args.statement c.args.form.now)
    (λ S a. record { rules = a; start = λ e. absurd (let f = sym c.if-is_start.false ∙ c.is_start.ensures ∙ e in cc) }) (λ S h. h.rules)
    c.in_ok-put_form.ensures
