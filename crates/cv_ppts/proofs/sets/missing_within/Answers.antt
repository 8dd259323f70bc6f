use Rattle.cv_ppts.specs.Numbers.{codes_of, row_codes}
use Rattle.cv_ppts.specs.declared.code.Code.{Code}
use Rattle.cv_ppts.specs.Plain.{HasCode, Sets}
use Rattle.cv_ppts.proofs.Lacked.{over_place}
use Rattle.cv_ppts.proofs.sets.missing_within.Goals as goal

pub returns : goal.returns
returns c = over_place (λ (R : Sets) (x : Code). HasCode R c.args.to x) (codes_of c.args.sets.now) (row_codes c.set_at.result.now) c.args.from c.missing_of.result c.set_at.ensures c.missing_of.ensures
