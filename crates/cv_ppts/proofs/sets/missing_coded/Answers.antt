use Rattle.std.proofs.Common.{ℕ, ◌+◌, slice_index_or, subst}
use Rattle.cv_ppts.specs.Numbers.{codes_of, entity_code}
use Rattle.cv_ppts.specs.Lacking.{Lacks}
use Rattle.cv_ppts.specs.Plain.{AreCoded, HasCode, Sets}
use Rattle.cv_ppts.proofs.Lacked.{lacks_part, number_all, number_passed}
use Rattle.cv_ppts.proofs.sets.missing_coded.Goals as goal

pub returns-in-Some : goal.returns-in-Some
returns-in-Some c =
    lacks_part (codes_of c.args.sets.now) (λ (R : Sets). HasCode R (c.args.first + c.loop-number.number) (entity_code (slice_index_or c.args.codes.now c.loop-number.number 0))) (λ (R : Sets). AreCoded R c.args.first c.args.codes.now c.args.count) _ _
    (λ R within w. w c.loop-number.number c.loop-number-test.true)
    (subst (λ n. Lacks (codes_of c.args.sets.now) (λ (R : Sets). HasCode R (c.args.first + c.loop-number.number) (entity_code n)) c.in-Some.missing.to c.in-Some.missing.code) c.code_at.ensures c.in-Some.ensures)

pub loop-number-preserved : goal.loop-number-preserved
loop-number-preserved c =
    number_passed (λ (k : ℕ). HasCode (codes_of c.args.sets.now) (c.args.first + k) (entity_code (slice_index_or c.args.codes.now k 0))) c.loop-number.number c.loop-number.invariant
    (subst (λ n. HasCode (codes_of c.args.sets.now) (c.args.first + c.loop-number.number) (entity_code n)) c.code_at.ensures c.in-None.ensures)

pub returns : goal.returns
returns c = number_all (λ (k : ℕ). HasCode (codes_of c.args.sets.now) (c.args.first + k) (entity_code (slice_index_or c.args.codes.now k 0))) c.loop-number.number c.args.count c.loop-number-test.false c.loop-number.invariant
