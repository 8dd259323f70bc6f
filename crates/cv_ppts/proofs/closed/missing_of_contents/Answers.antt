use Rattle.cv_ppts.specs.Numbers.{codes_of}
use Rattle.cv_ppts.proofs.Closing.{coded_as}
use Rattle.cv_ppts.proofs.closed.missing_of_contents.Goals as goal

pub returns : goal.returns
returns c = coded_as (codes_of c.args.sets.now) _ _ _ _ _ _ c.missing_coded.result c.pointer_count.ensures.value c.content_codes.ensures c.content_count.ensures c.missing_coded.ensures
