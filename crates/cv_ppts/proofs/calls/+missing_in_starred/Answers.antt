use Rattle.std.proofs.Common.{FitsSigned, pos, rules, slice_index_or, w32, List, add-one, arith, drop, length, take, ◌+◌, ◌-◌, ◌<◌}
use Rattle.cv_core.specs.declared.program.Formal.{Formal}
use Rattle.cv_ppts.specs.declared.code.Code.{Code}
use Rattle.cv_ppts.specs.Numbers.{codes_of}
use Rattle.cv_ppts.specs.Choices.{starred_cell}
use Rattle.cv_ppts.specs.Keys.{setting}
use Rattle.cv_ppts.specs.Lacking.{CellsPicked, starred_ahead}
use Rattle.cv_ppts.specs.Picked.{pick_at}
use Rattle.cv_ppts.specs.Plain.{Sets}
use Rattle.cv_ppts.proofs.Called.{fewer, peeled, shorter}
use Rattle.cv_ppts.proofs.Lacked.{narrow, nil_below, passed}
use Rattle.cv_ppts.proofs.Overs.{ahead_picks, ahead_skips, cells_all, cells_lack, first_named, first_some, found_none, found_some, starred_first, starred_none}
use Rattle.cv_ppts.proofs.calls.+missing_in_starred.Goals as goal

pub missing_in_listed-requires : goal.missing_in_listed-requires
missing_in_listed-requires t c =
    record { ahead = starred_none (setting c.args.s.now) c.args.g.now (pick_at c.args.formals.now) c.args.number c.args.rest.now c.as_slice.result.now c.args.cells.now (nil_below c.args.rest.now c.in_default.len_below) c.as_slice.ensures c.requires.ahead }

pub missing_in_starred-requires : goal.missing_in_starred-requires
missing_in_starred-requires t c =
    let s = setting c.args.s.now in
    let more : List Formal = take (length c.args.rest.now - 1) (drop 1 c.args.rest.now) in
    let less : length more < length c.args.rest.now = shorter c.args.rest.now c.formal-item.result more (peeled c.args.rest.now c.formal-item.result _ c.in-len1-up.len_at_least c.formal-item.is) in
    let d = c.decreases in
    let lt : length more < t = omega (arith, less, d) in (
      lt,
      (
        ahead_skips s c.args.g.now (pick_at c.args.formals.now) (starred_ahead s c.args.g.now (pick_at c.args.formals.now) c.args.number c.args.rest.now) (starred_ahead s c.args.g.now (pick_at c.args.formals.now) (c.args.number + 1) more) (starred_cell c.formal-item.result.kind (pick_at c.args.formals.now c.args.number)) c.args.cells.now
            (starred_first s c.args.g.now (pick_at c.args.formals.now) c.args.number (c.args.number + 1) c.args.rest.now more c.formal-item.result (peeled c.args.rest.now c.formal-item.result _ c.in-len1-up.len_at_least c.formal-item.is) (add-one c.args.number))
            (found_none c.args.cells.now _ _ _ c.new_cell.ensures c.starred_at.ensures c.in-None.is) c.requires.ahead,
        fewer c.args.rest.now c.formal-item.result more c.args.number (length c.args.g.now.formals) (peeled c.args.rest.now c.formal-item.result _ c.in-len1-up.len_at_least c.formal-item.is) c.requires.small,
      ),
    )

pub missing_in_starred-requires-in-loop-number : goal.missing_in_starred-requires-in-loop-number
missing_in_starred-requires-in-loop-number t c =
    let s = setting c.args.s.now in
    let more : List Formal = take (length c.args.rest.now - 1) (drop 1 c.args.rest.now) in
    let free = found_some c.args.cells.now (starred_cell c.formal-item.result.kind (pick_at c.args.formals.now c.args.number)) _ _ c.in-Some.cell c.new_cell.ensures c.starred_at.ensures c.in-Some.is in
    let less : length more < length c.args.rest.now = shorter c.args.rest.now c.formal-item.result more (peeled c.args.rest.now c.formal-item.result _ c.in-len1-up.len_at_least c.formal-item.is) in
    let d = c.decreases in
    let lt : length more < t = omega (arith, less, d) in (
      lt,
      (
        ahead_picks s c.args.g.now (pick_at c.args.formals.now) (starred_ahead s c.args.g.now (pick_at c.args.formals.now) c.args.number c.args.rest.now) (starred_ahead s c.args.g.now (pick_at c.args.formals.now) (c.args.number + 1) more) c.in-Some.cell _ _ c.args.cells.now
            (first_some (starred_ahead s c.args.g.now (pick_at c.args.formals.now) c.args.number c.args.rest.now) (starred_ahead s c.args.g.now (pick_at c.args.formals.now) (c.args.number + 1) more) (starred_cell c.formal-item.result.kind (pick_at c.args.formals.now c.args.number)) c.in-Some.cell
            (starred_first s c.args.g.now (pick_at c.args.formals.now) c.args.number (c.args.number + 1) c.args.rest.now more c.formal-item.result (peeled c.args.rest.now c.formal-item.result _ c.in-len1-up.len_at_least c.formal-item.is) (add-one c.args.number)) free.0)
            c.requires.ahead,
        fewer c.args.rest.now c.formal-item.result more c.args.number (length c.args.g.now.formals) (peeled c.args.rest.now c.formal-item.result _ c.in-len1-up.len_at_least c.formal-item.is) c.requires.small,
      ),
    )

pub returns-in-Some-missing_in_starred : goal.returns-in-Some-missing_in_starred
returns-in-Some-missing_in_starred t c =
    let f : FitsSigned w32 (slice_index_or c.cell_codes-number-items.result.now c.loop-number.number-index (pos 0)) = search rules in
    let s = setting c.args.s.now in
    let more : List Formal = take (length c.args.rest.now - 1) (drop 1 c.args.rest.now) in
    let free = found_some c.args.cells.now (starred_cell c.formal-item.result.kind (pick_at c.args.formals.now c.args.number)) _ _ c.in-Some.cell c.new_cell.ensures c.starred_at.ensures c.in-Some.is in
    let named = first_named s c.args.g.now (pick_at c.args.formals.now) (starred_ahead s c.args.g.now (pick_at c.args.formals.now) c.args.number c.args.rest.now) (starred_ahead s c.args.g.now (pick_at c.args.formals.now) (c.args.number + 1) more) (starred_cell c.formal-item.result.kind (pick_at c.args.formals.now c.args.number)) c.in-Some.cell c.args.cells.now
    (starred_first s c.args.g.now (pick_at c.args.formals.now) c.args.number (c.args.number + 1) c.args.rest.now more c.formal-item.result (peeled c.args.rest.now c.formal-item.result _ c.in-len1-up.len_at_least c.formal-item.is) (add-one c.args.number)) free.0 c.requires.ahead in
    cells_lack s (codes_of c.args.sets.now) c.args.target c.args.into c.args.g.now (pick_at c.args.formals.now) c.args.cells.now c.in-Some.cell c.cell_codes-number-items.result.now c.loop-number.number-index _ c.code_of.result _ free.1 named c.cell_codes-number-items.ensures c.loop-number-test.true (narrow (slice_index_or c.cell_codes-number-items.result.now c.loop-number.number-index (pos 0)) c.code_of.result f c.code_of.ensures) c.in-Some-missing_in_starred.ensures

pub loop-number-preserved : goal.loop-number-preserved
loop-number-preserved t c =
    let f : FitsSigned w32 (slice_index_or c.cell_codes-number-items.result.now c.loop-number.number-index (pos 0)) = search rules in
    passed (λ (x : Code). CellsPicked (setting c.args.s.now) (codes_of c.args.sets.now) c.args.target c.args.into c.args.g.now (pick_at c.args.formals.now) c.in-Some.cell x c.args.cells.now)
    c.cell_codes-number-items.result.now c.loop-number.number-index c.code_of.result c.loop-number-test.true (narrow (slice_index_or c.cell_codes-number-items.result.now c.loop-number.number-index (pos 0)) c.code_of.result f c.code_of.ensures) c.loop-number.invariant c.in-None-missing_in_starred.ensures

pub returns-after-loop-number : goal.returns-after-loop-number
returns-after-loop-number t c =
    let s = setting c.args.s.now in
    let more : List Formal = take (length c.args.rest.now - 1) (drop 1 c.args.rest.now) in
    let free = found_some c.args.cells.now (starred_cell c.formal-item.result.kind (pick_at c.args.formals.now c.args.number)) _ _ c.in-Some.cell c.new_cell.ensures c.starred_at.ensures c.in-Some.is in
    let named = first_named s c.args.g.now (pick_at c.args.formals.now) (starred_ahead s c.args.g.now (pick_at c.args.formals.now) c.args.number c.args.rest.now) (starred_ahead s c.args.g.now (pick_at c.args.formals.now) (c.args.number + 1) more) (starred_cell c.formal-item.result.kind (pick_at c.args.formals.now c.args.number)) c.in-Some.cell c.args.cells.now
    (starred_first s c.args.g.now (pick_at c.args.formals.now) c.args.number (c.args.number + 1) c.args.rest.now more c.formal-item.result (peeled c.args.rest.now c.formal-item.result _ c.in-len1-up.len_at_least c.formal-item.is) (add-one c.args.number)) free.0 c.requires.ahead in
    cells_all s (codes_of c.args.sets.now) c.args.target c.args.into c.args.g.now (pick_at c.args.formals.now) c.args.cells.now c.in-Some.cell c.cell_codes-number-items.result.now c.loop-number.number-index free.1 named c.cell_codes-number-items.ensures c.loop-number-test.false c.loop-number.invariant
