use Rattle.std.proofs.Common.{FitsSigned, pos, rules, slice_index_or, w32, List, ap, arith, drop, length, sym, take, ◌-◌, ◌<◌, ◌∙◌}
use Rattle.cv_core.specs.declared.program.Formal.{Formal}
use Rattle.cv_ppts.specs.declared.code.Code.{Code}
use Rattle.cv_ppts.specs.Numbers.{codes_of}
use Rattle.cv_ppts.specs.Choices.{argument_codes}
use Rattle.cv_ppts.specs.Keys.{setting}
use Rattle.cv_ppts.specs.Lacking.{FormalsPicked}
use Rattle.cv_ppts.specs.Plain.{Sets}
use Rattle.cv_ppts.proofs.Called.{as_many, fewer, peeled, shorter}
use Rattle.cv_ppts.proofs.Formals.{formals_all, formals_end, formals_lack, formals_pick, formals_skip}
use Rattle.cv_ppts.proofs.Lacked.{narrow, nil_below, passed}
use Rattle.cv_ppts.proofs.Overs.{starred_begins}
use Rattle.cv_ppts.proofs.calls.+missing_in_formals.Goals as goal

pub missing_in_starred-requires : goal.missing_in_starred-requires
missing_in_starred-requires t c =
    record { small = as_many c.as_slice.result.now c.args.g.now.formals c.as_slice.ensures; ahead = starred_begins (setting c.args.s.now) c.args.g.now _ c.as_slice.result.now c.as_slice.ensures }

pub returns-in_default : goal.returns-in_default
returns-in_default t c =
    formals_end (setting c.args.s.now) (codes_of c.args.sets.now) c.args.target c.args.into c.args.g.now c.args.args.now c.args.rest.now c.args.number c.args.formals.now c.missing_in_starred.result c.requires.ahead
    (nil_below c.args.rest.now c.in_default.len_below) c.missing_in_starred.ensures

pub missing_in_formals-requires : goal.missing_in_formals-requires
missing_in_formals-requires t c =
    let more : List Formal = take (length c.args.rest.now - 1) (drop 1 c.args.rest.now) in
    let less : length more < length c.args.rest.now = shorter c.args.rest.now c.formal-item.result more (peeled c.args.rest.now c.formal-item.result _ c.in-len1-up.len_at_least c.formal-item.is) in
    let d = c.decreases in
    let lt : length more < t = omega (arith, less, d) in (
      lt,
      (
        formals_skip c.args.g.now c.args.rest.now more c.formal-item.result c.args.number c.args.formals.now (peeled c.args.rest.now c.formal-item.result _ c.in-len1-up.len_at_least c.formal-item.is)
            (sym c.is_pointer_kind.ensures ∙ c.if-not-is_pointer_kind.true) c.requires.ahead,
        fewer c.args.rest.now c.formal-item.result more c.args.number (length c.args.g.now.formals) (peeled c.args.rest.now c.formal-item.result _ c.in-len1-up.len_at_least c.formal-item.is) c.requires.small,
      ),
    )

pub missing_in_formals-requires-in-loop-code : goal.missing_in_formals-requires-in-loop-code
missing_in_formals-requires-in-loop-code t c =
    let more : List Formal = take (length c.args.rest.now - 1) (drop 1 c.args.rest.now) in
    let less : length more < length c.args.rest.now = shorter c.args.rest.now c.formal-item.result more (peeled c.args.rest.now c.formal-item.result _ c.in-len1-up.len_at_least c.formal-item.is) in
    let d = c.decreases in
    let lt : length more < t = omega (arith, less, d) in
    (lt, (formals_pick c.args.g.now c.args.rest.now more c.formal-item.result c.args.number _ _ c.args.formals.now (peeled c.args.rest.now c.formal-item.result _ c.in-len1-up.len_at_least c.formal-item.is) c.requires.ahead, fewer c.args.rest.now c.formal-item.result more c.args.number (length c.args.g.now.formals) (peeled c.args.rest.now c.formal-item.result _ c.in-len1-up.len_at_least c.formal-item.is) c.requires.small))

pub returns-in-Some : goal.returns-in-Some
returns-in-Some t c =
    let f : FitsSigned w32 (slice_index_or c.argument_codes-code-items.result.now c.loop-code.code-index (pos 0)) = search rules in
    let more : List Formal = take (length c.args.rest.now - 1) (drop 1 c.args.rest.now) in
    formals_lack (setting c.args.s.now) (codes_of c.args.sets.now) c.args.target c.args.into c.args.g.now c.args.args.now c.args.rest.now more c.formal-item.result c.args.number c.args.formals.now c.argument_codes-code-items.result.now c.loop-code.code-index _ c.code_of.result _
    c.requires.ahead (peeled c.args.rest.now c.formal-item.result _ c.in-len1-up.len_at_least c.formal-item.is) (sym c.is_pointer_kind.ensures ∙ c.if-not-is_pointer_kind.false)
    (c.argument_codes-code-items.ensures ∙ ap (argument_codes (setting c.args.s.now) (codes_of c.args.sets.now)) c.get.ensures.value) c.loop-code-test.true (narrow (slice_index_or c.argument_codes-code-items.result.now c.loop-code.code-index (pos 0)) c.code_of.result f c.code_of.ensures) c.in-Some.ensures

pub loop-code-preserved : goal.loop-code-preserved
loop-code-preserved t c =
    let f : FitsSigned w32 (slice_index_or c.argument_codes-code-items.result.now c.loop-code.code-index (pos 0)) = search rules in
    passed (λ (x : Code). FormalsPicked (setting c.args.s.now) (codes_of c.args.sets.now) c.args.target c.args.into c.args.g.now c.args.args.now c.args.number x c.args.formals.now)
    c.argument_codes-code-items.result.now c.loop-code.code-index c.code_of.result c.loop-code-test.true (narrow (slice_index_or c.argument_codes-code-items.result.now c.loop-code.code-index (pos 0)) c.code_of.result f c.code_of.ensures) c.loop-code.invariant c.in-None.ensures

pub returns : goal.returns
returns t c =
    let more : List Formal = take (length c.args.rest.now - 1) (drop 1 c.args.rest.now) in
    formals_all (setting c.args.s.now) (codes_of c.args.sets.now) c.args.target c.args.into c.args.g.now c.args.args.now c.args.rest.now more c.formal-item.result c.args.number c.args.formals.now c.argument_codes-code-items.result.now c.loop-code.code-index
    c.requires.ahead (peeled c.args.rest.now c.formal-item.result _ c.in-len1-up.len_at_least c.formal-item.is) (sym c.is_pointer_kind.ensures ∙ c.if-not-is_pointer_kind.false)
    (c.argument_codes-code-items.ensures ∙ ap (argument_codes (setting c.args.s.now) (codes_of c.args.sets.now)) c.get.ensures.value) c.loop-code-test.false c.loop-code.invariant
