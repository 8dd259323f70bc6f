use Rattle.std.proofs.Common.{sym, ◌∙◌, arith}
use Rattle.std.proofs.lemmas.Grind.{common_steps}
use Rattle.cv_ppts.proofs.Spliced.{joined_none, joined_some}
use Rattle.cv_ppts.proofs.blocks.with_joined.Goals as goal

pub returns-in-None : goal.returns-in-None
returns-in-None c = joined_none c.args.blocks.now c.args.entity.now c.args.place _ c.index-blocks-place.result c.requires c.index-blocks-place.is (sym c.in_ok-joined.ensures ∙ c.in-None.is)

pub returns-in_ok-all-in-Some : goal.returns-in_ok-all-in-Some
returns-in_ok-all-in-Some c =
    joined_some c.args.blocks.now c.in_ok-all-in-Some.all.items c.args.entity.now c.args.place _ c.index-blocks-place.result c.in-Some.block c.requires c.index-blocks-place.is
    (sym c.in_ok-joined.ensures ∙ c.in-Some.is) (grind (arith, common_steps))
