use Rattle.std.proofs.Common.{rules}
use Rattle.cv_farkas.proofs.PartLemmas.{divided_down}
use Rattle.cv_farkas.proofs.parts.is_within_multiple.Goals as goal

pub returns : goal.returns
returns c = let both = divided_down c.args.d c.args.sum c.args.value c.requires in search (rules, both)
