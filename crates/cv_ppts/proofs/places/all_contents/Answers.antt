use Rattle.std.proofs.Common.{subst, sym, ◌≡◌, ◌+◌, length}
use Rattle.cv_ppts.specs.Keys.{setting}
use Rattle.cv_ppts.specs.Setting.{AreContents}
use Rattle.cv_ppts.proofs.Contents.{one_more}
use Rattle.cv_ppts.proofs.places.all_contents.Goals as goal

pub loop-target-preserved : goal.loop-target-preserved
loop-target-preserved c =
    subst (λ v. (length v ≡ c.loop-target.target + 1) × AreContents (setting c.args.s.now) v) (sym c.in_ok-push.ensures.items)
    (one_more (setting c.args.s.now) c.loop-target.contents.items c.loop-target.target c.searched_content.result c.loop-target.invariant c.searched_content.ensures)
