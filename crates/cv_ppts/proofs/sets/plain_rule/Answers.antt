use Rattle.std.proofs.Common.{ap, sym, ◌∙◌}
use Rattle.cv_ppts.specs.Keys.{setting}
use Rattle.cv_ppts.specs.Plain.{plain_rule}
use Rattle.cv_ppts.proofs.sets.plain_rule.Goals as goal

pub returns-in-Address : goal.returns-in-Address
returns-in-Address c = c.address_rule.ensures ∙ ap (plain_rule (setting c.args.s.now)) (sym c.in-Address.is)

pub returns-in-Shift : goal.returns-in-Shift
returns-in-Shift c = c.shift_rule.ensures ∙ ap (plain_rule (setting c.args.s.now)) (sym c.in-Shift.is)

pub returns-in-Get : goal.returns-in-Get
returns-in-Get c = c.get_rule.ensures ∙ ap (plain_rule (setting c.args.s.now)) (sym c.in-Get.is)
