use Rattle.std.proofs.Common.{ap, sym, ◌∙◌}
use Rattle.std.specs.Option.{option_map}
use Rattle.cv_points.specs.Closed.{plain_rule}
use Rattle.cv_points.specs.Holders.{first_holder, site_of, variable_place}
use Rattle.cv_points.specs.Walks.{word_rule}
use Rattle.cv_points.proofs.rules.plain_rule.Goals as goal

pub returns-in-Shift : goal.returns-in-Shift
returns-in-Shift c proc h =
    let start = first_holder c.args.p.now proc in
    c.includes-in-Shift.ensures (variable_place start c.args.f.now c.in-Shift.q) (variable_place start c.args.f.now c.in-Shift.to) (c.named_place-in-Shift.ensures start h.first) (c.named_place-in-Shift-2.ensures start h.first)
    ∙ ap (λ m. option_map word_rule (plain_rule c.args.p.now proc c.args.f.now m)) (sym c.in-Shift.is)

pub returns-in-Address : goal.returns-in-Address
returns-in-Address c proc h =
    let start = first_holder c.args.p.now proc in
    c.has.ensures (variable_place start c.args.f.now c.in-Address.to) (site_of c.args.p.now proc c.args.f.now c.in-Address.object) (c.named_place-in-Address.ensures start h.first) (c.named_site.ensures proc h.objects)
    ∙ ap (λ m. option_map word_rule (plain_rule c.args.p.now proc c.args.f.now m)) (sym c.in-Address.is)

pub returns-in-Get : goal.returns-in-Get
returns-in-Get c proc h =
    let start = first_holder c.args.p.now proc in
    c.reads.ensures (variable_place start c.args.f.now c.in-Get.w) (variable_place start c.args.f.now c.in-Get.x) (c.named_place-in-Get.ensures start h.first) (c.named_place-in-Get-2.ensures start h.first)
    ∙ ap (λ m. option_map word_rule (plain_rule c.args.p.now proc c.args.f.now m)) (sym c.in-Get.is)
