use Rattle.std.proofs.Common.{◌≡◌, Some}
use Rattle.cv_ppts.specs.Numbers.{codes_of}
use Rattle.cv_ppts.specs.Plain.{Sets}
use Rattle.cv_ppts.specs.Targets.{IsLost}
use Rattle.cv_ppts.proofs.Lacked.{answer_part}
use Rattle.cv_ppts.proofs.calls.missing_lost_but.Goals as goal

pub returns-then-is_place : goal.returns-then-is_place
returns-then-is_place c = λ ne. absurd (ne c.if-is_place.ensures)

pub returns-else-is_place : goal.returns-else-is_place
returns-else-is_place c =
    answer_part (codes_of c.args.sets.now) (λ (R : Sets). IsLost R c.args.target c.args.place) (λ (R : Sets). (c.args.into ≡ Some c.args.place → ⊥) → IsLost R c.args.target c.args.place) c.missing_lost.result
    (λ q ne. q) (λ R within w. w c.if-is_place.ensures) c.missing_lost.ensures
