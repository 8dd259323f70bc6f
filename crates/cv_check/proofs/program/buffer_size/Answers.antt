use Rattle.std.proofs.Common.{◌∙◌, ap}
use Rattle.cv_check.specs.Accepted.{size_among}
use Rattle.cv_check.proofs.Sizes.{slice_small}
use Rattle.cv_check.proofs.program.buffer_size.Goals as goal

pub returns-in-Some-clause-small : goal.returns-in-Some-clause-small
returns-in-Some-clause-small c =
    slice_small _ _ _ _ _ _ c.p.invariant.procs c.as_slice.ensures c.in-len1-up.len_at_least c.main-item.is c.in-Some.is
    (c.size_among.ensures ∙ ap size_among c.as_slice-in-Some.ensures)
