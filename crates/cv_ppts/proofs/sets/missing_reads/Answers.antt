use Rattle.std.proofs.Common.{FitsSigned, pos, rules, slice_index_or, w32}
use Rattle.cv_ppts.specs.Numbers.{codes_of}
use Rattle.cv_ppts.specs.declared.code.Code.{Code}
use Rattle.cv_ppts.specs.Keys.{setting}
use Rattle.cv_ppts.specs.Plain.{Sets, ReadsFrom, content_in}
use Rattle.cv_ppts.proofs.Lacked.{all_passed, lacks_one, narrow, passed}
use Rattle.cv_ppts.proofs.sets.missing_reads.Goals as goal

pub returns-in-Some : goal.returns-in-Some
returns-in-Some c =
    let f : FitsSigned w32 (slice_index_or c.args.codes.now c.loop-number.number-index (pos 0)) = search rules in
    lacks_one (λ (R : Sets) (x : Code). ReadsFrom R (content_in (setting c.args.s.now) x) c.args.to) (codes_of c.args.sets.now) c.args.codes.now c.loop-number.number-index _ c.code_of.result _ c.loop-number-test.true (narrow (slice_index_or c.args.codes.now c.loop-number.number-index (pos 0)) c.code_of.result f c.code_of.ensures) c.in-Some.ensures

pub loop-number-preserved : goal.loop-number-preserved
loop-number-preserved c =
    let f : FitsSigned w32 (slice_index_or c.args.codes.now c.loop-number.number-index (pos 0)) = search rules in
    passed (λ (x : Code). ReadsFrom (codes_of c.args.sets.now) (content_in (setting c.args.s.now) x) c.args.to) c.args.codes.now c.loop-number.number-index c.code_of.result c.loop-number-test.true (narrow (slice_index_or c.args.codes.now c.loop-number.number-index (pos 0)) c.code_of.result f c.code_of.ensures) c.loop-number.invariant c.in-None.ensures

pub returns : goal.returns
returns c = all_passed (λ (x : Code). ReadsFrom (codes_of c.args.sets.now) (content_in (setting c.args.s.now) x) c.args.to) c.args.codes.now c.loop-number.number-index c.loop-number-test.false c.loop-number.invariant
