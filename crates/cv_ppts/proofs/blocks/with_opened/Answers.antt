use Rattle.std.proofs.Common.{sym, ◌∙◌, arith}
use Rattle.std.proofs.lemmas.Grind.{common_steps}
use Rattle.cv_ppts.proofs.Spliced.{opened_none, opened_some}
use Rattle.cv_ppts.proofs.blocks.with_opened.Goals as goal

pub returns-in-None : goal.returns-in-None
returns-in-None c = opened_none c.args.blocks.now c.args.entity.now (sym c.in_ok-opened.ensures ∙ c.in-None.is)

pub returns-in_ok-all-in-Some : goal.returns-in_ok-all-in-Some
returns-in_ok-all-in-Some c =
    opened_some c.args.blocks.now c.in_ok-all-in-Some.all.items c.args.entity.now c.in-Some.block (sym c.in_ok-opened.ensures ∙ c.in-Some.is) (grind (arith, common_steps))
