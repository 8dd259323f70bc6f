use Rattle.cv_ppts.specs.declared.code.Code.TheVariants as code
use Rattle.cv_ppts.specs.Numbers.{codes_of}
use Rattle.cv_ppts.specs.Plain.{HasCode, Sets}
use Rattle.cv_ppts.specs.Targets.{IsLost}
use Rattle.cv_ppts.proofs.Lacked.{answer_part}
use Rattle.cv_ppts.proofs.calls.missing_lost.Goals as goal

pub returns-then-has_target : goal.returns-then-has_target
returns-then-has_target c =
    answer_part (codes_of c.args.sets.now) (λ (R : Sets). HasCode R c.args.place code.Unknown) (λ (R : Sets). IsLost R c.args.target c.args.place) c.missing_code.result
    (λ q x. q) (λ R within w. w (within c.args.place (code.Target c.args.target) c.if-has_target.ensures)) c.missing_code.ensures

pub returns-else-has_target : goal.returns-else-has_target
returns-else-has_target c = λ x. absurd (c.if-has_target.ensures x)
