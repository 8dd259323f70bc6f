use Rattle.std.proofs.Common.{FitsSigned, pos, rules, slice_index_or, w32, List, arith, drop, length, take, ◌-◌, ◌<◌}
use Rattle.cv_core.specs.Names.{Name}
use Rattle.cv_ppts.specs.declared.code.Code.{Code}
use Rattle.cv_ppts.specs.Numbers.{codes_of}
use Rattle.cv_ppts.specs.Choices.{listed_cell}
use Rattle.cv_ppts.specs.Keys.{setting}
use Rattle.cv_ppts.specs.Lacking.{CellsPicked, listed_ahead}
use Rattle.cv_ppts.specs.Picked.{pick_at}
use Rattle.cv_ppts.specs.Plain.{Sets}
use Rattle.cv_ppts.proofs.Called.{peeled, shorter}
use Rattle.cv_ppts.proofs.Lacked.{narrow, nil_below, passed}
use Rattle.cv_ppts.proofs.Overs.{ahead_picks, ahead_skips, cells_all, cells_end, cells_lack, first_named, first_some, found_none, found_some, listed_first, listed_none}
use Rattle.cv_ppts.proofs.calls.+missing_in_listed.Goals as goal

pub returns-in_default : goal.returns-in_default
returns-in_default t c =
    let s = setting c.args.s.now in
    cells_end s (codes_of c.args.sets.now) c.args.target c.args.into c.args.g.now (pick_at c.args.formals.now) (listed_ahead s c.args.rest.now) c.args.cells.now c.missing_in_choice.result c.requires.ahead
    (listed_none s c.args.rest.now (nil_below c.args.rest.now c.in_default.len_below)) c.missing_in_choice.ensures

pub missing_in_listed-requires : goal.missing_in_listed-requires
missing_in_listed-requires t c =
    let s = setting c.args.s.now in
    let more : List Name = take (length c.args.rest.now - 1) (drop 1 c.args.rest.now) in
    let less : length more < length c.args.rest.now = shorter c.args.rest.now c.name-item.result more (peeled c.args.rest.now c.name-item.result _ c.in-len1-up.len_at_least c.name-item.is) in
    let d = c.decreases in
    let lt : length more < t = omega (arith, less, d) in (
      lt,
      ahead_skips s c.args.g.now (pick_at c.args.formals.now) (listed_ahead s c.args.rest.now) (listed_ahead s more) (listed_cell s c.name-item.result) c.args.cells.now
          (listed_first s c.args.rest.now more c.name-item.result (peeled c.args.rest.now c.name-item.result _ c.in-len1-up.len_at_least c.name-item.is))
          (found_none c.args.cells.now _ _ _ c.new_cell.ensures c.listed_cell.ensures c.in-None.is) c.requires.ahead,
    )

pub missing_in_listed-requires-in-loop-number : goal.missing_in_listed-requires-in-loop-number
missing_in_listed-requires-in-loop-number t c =
    let s = setting c.args.s.now in
    let more : List Name = take (length c.args.rest.now - 1) (drop 1 c.args.rest.now) in
    let free = found_some c.args.cells.now (listed_cell s c.name-item.result) _ _ c.in-Some.cell c.new_cell.ensures c.listed_cell.ensures c.in-Some.is in
    let less : length more < length c.args.rest.now = shorter c.args.rest.now c.name-item.result more (peeled c.args.rest.now c.name-item.result _ c.in-len1-up.len_at_least c.name-item.is) in
    let d = c.decreases in
    let lt : length more < t = omega (arith, less, d) in (
      lt,
      ahead_picks s c.args.g.now (pick_at c.args.formals.now) (listed_ahead s c.args.rest.now) (listed_ahead s more) c.in-Some.cell _ _ c.args.cells.now
          (first_some (listed_ahead s c.args.rest.now) (listed_ahead s more) (listed_cell s c.name-item.result) c.in-Some.cell
          (listed_first s c.args.rest.now more c.name-item.result (peeled c.args.rest.now c.name-item.result _ c.in-len1-up.len_at_least c.name-item.is)) free.0)
          c.requires.ahead,
    )

pub returns-in-Some-missing_in_listed : goal.returns-in-Some-missing_in_listed
returns-in-Some-missing_in_listed t c =
    let f : FitsSigned w32 (slice_index_or c.cell_codes-number-items.result.now c.loop-number.number-index (pos 0)) = search rules in
    let s = setting c.args.s.now in
    let more : List Name = take (length c.args.rest.now - 1) (drop 1 c.args.rest.now) in
    let free = found_some c.args.cells.now (listed_cell s c.name-item.result) _ _ c.in-Some.cell c.new_cell.ensures c.listed_cell.ensures c.in-Some.is in
    let named = first_named s c.args.g.now (pick_at c.args.formals.now) (listed_ahead s c.args.rest.now) (listed_ahead s more) (listed_cell s c.name-item.result) c.in-Some.cell c.args.cells.now
    (listed_first s c.args.rest.now more c.name-item.result (peeled c.args.rest.now c.name-item.result _ c.in-len1-up.len_at_least c.name-item.is)) free.0 c.requires.ahead in
    cells_lack s (codes_of c.args.sets.now) c.args.target c.args.into c.args.g.now (pick_at c.args.formals.now) c.args.cells.now c.in-Some.cell c.cell_codes-number-items.result.now c.loop-number.number-index _ c.code_of.result _ free.1 named c.cell_codes-number-items.ensures c.loop-number-test.true (narrow (slice_index_or c.cell_codes-number-items.result.now c.loop-number.number-index (pos 0)) c.code_of.result f c.code_of.ensures) c.in-Some-missing_in_listed.ensures

pub loop-number-preserved : goal.loop-number-preserved
loop-number-preserved t c =
    let f : FitsSigned w32 (slice_index_or c.cell_codes-number-items.result.now c.loop-number.number-index (pos 0)) = search rules in
    passed (λ (x : Code). CellsPicked (setting c.args.s.now) (codes_of c.args.sets.now) c.args.target c.args.into c.args.g.now (pick_at c.args.formals.now) c.in-Some.cell x c.args.cells.now)
    c.cell_codes-number-items.result.now c.loop-number.number-index c.code_of.result c.loop-number-test.true (narrow (slice_index_or c.cell_codes-number-items.result.now c.loop-number.number-index (pos 0)) c.code_of.result f c.code_of.ensures) c.loop-number.invariant c.in-None-missing_in_listed.ensures

pub returns-after-loop-number : goal.returns-after-loop-number
returns-after-loop-number t c =
    let s = setting c.args.s.now in
    let more : List Name = take (length c.args.rest.now - 1) (drop 1 c.args.rest.now) in
    let free = found_some c.args.cells.now (listed_cell s c.name-item.result) _ _ c.in-Some.cell c.new_cell.ensures c.listed_cell.ensures c.in-Some.is in
    let named = first_named s c.args.g.now (pick_at c.args.formals.now) (listed_ahead s c.args.rest.now) (listed_ahead s more) (listed_cell s c.name-item.result) c.in-Some.cell c.args.cells.now
    (listed_first s c.args.rest.now more c.name-item.result (peeled c.args.rest.now c.name-item.result _ c.in-len1-up.len_at_least c.name-item.is)) free.0 c.requires.ahead in
    cells_all s (codes_of c.args.sets.now) c.args.target c.args.into c.args.g.now (pick_at c.args.formals.now) c.args.cells.now c.in-Some.cell c.cell_codes-number-items.result.now c.loop-number.number-index free.1 named c.cell_codes-number-items.ensures c.loop-number-test.false c.loop-number.invariant
