use Rattle.std.proofs.Common.{Bool, true, false, Some, refl, ap, sym, ◌≡◌, ◌∙◌, if◌then◌else◌, bytes_eq, codes}
use Rattle.std.specs.Option.{option_map}
use Rattle.cv_core.specs.Names.{malloc_site, place_of}
use Rattle.cv_core.specs.declared.program.Proc.{Proc}
use Rattle.cv_points.specs.Closed.{both, form_rule, place_in, procedure_rule}
use Rattle.cv_points.specs.Holders.{first_holder}
use Rattle.cv_points.specs.Walks.{callee_in, word_rule}
use Rattle.cv_points.specs.declared.rules.Rule.TheVariants as rule
use Rattle.cv_points.proofs.rules.form_rule.Goals as goal

else_of : {X : Type 0} (b : Bool) (m z : X) → b ≡ false → z ≡ (if b then m else z)
else_of true m z e = absurd (cc)
else_of false m z e = refl

pub returns-else-names_malloc : goal.returns-else-names_malloc
returns-else-names_malloc c proc here h =
    let start = first_holder c.args.p.now proc in
    c.procedure_rule.ensures start h.first
    ∙ ap (λ j. option_map word_rule (procedure_rule c.args.p.now start c.args.f.now c.in-Call.into c.in-Call.args j c.args.number)) (c.requires.callee ∙ ap (callee_in c.args.p.now) c.in-Call.is)
    ∙ ap (λ r. option_map word_rule r) (else_of (bytes_eq c.in-Call.name (codes "malloc"))
    (both (λ to s. rule.Has to s) (place_in start c.args.f.now c.in-Call.into) (Some (malloc_site c.args.p.now proc c.args.statement)))
    (procedure_rule c.args.p.now start c.args.f.now c.in-Call.into c.in-Call.args (place_of (λ (h : Proc). h.name) c.in-Call.name c.args.p.now.procs) c.args.number)
    (sym c.names_malloc.ensures ∙ c.if-names_malloc.false))
    ∙ ap (λ m. option_map word_rule (form_rule c.args.p.now proc c.args.f.now c.args.statement m c.args.number)) (sym c.in-Call.is)
