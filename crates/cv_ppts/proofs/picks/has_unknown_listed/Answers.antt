use Rattle.std.proofs.Common.{List, ◌-◌, ◌∙◌, ap, drop, length, sym, take}
use Rattle.cv_core.specs.Names.{Name}
use Rattle.cv_ppts.specs.Choices.{is_unknown_cell, listed_cell}
use Rattle.cv_ppts.specs.Keys.{setting}
use Rattle.cv_ppts.specs.Picked.{choice_of}
use Rattle.cv_ppts.proofs.Called.{any_found, any_passed, peeled}
use Rattle.cv_ppts.proofs.picks.has_unknown_listed.Goals as goal

pub returns-then-is_unknown_cell : goal.returns-then-is_unknown_cell
returns-then-is_unknown_cell c =
    let s = setting c.args.s.now in
    let K = choice_of s c.args.k.now in
    let more : List Name = take (length c.loop-rest.rest.now - 1) (drop 1 c.loop-rest.rest.now) in
    any_found (λ (x : Name). is_unknown_cell K (listed_cell s x)) c.loop-rest.rest.now c.name-item.result more _ (peeled c.loop-rest.rest.now c.name-item.result _ c.in-len1-up.len_at_least c.name-item.is)
    (sym (c.is_unknown_cell.ensures ∙ ap (is_unknown_cell K) c.listed_cell.ensures) ∙ c.if-is_unknown_cell.true) c.loop-rest.invariant

pub loop-rest-preserved : goal.loop-rest-preserved
loop-rest-preserved c =
    let s = setting c.args.s.now in
    let K = choice_of s c.args.k.now in
    let more : List Name = take (length c.loop-rest.rest.now - 1) (drop 1 c.loop-rest.rest.now) in
    any_passed (λ (x : Name). is_unknown_cell K (listed_cell s x)) c.loop-rest.rest.now c.name-item.result more _ (peeled c.loop-rest.rest.now c.name-item.result _ c.in-len1-up.len_at_least c.name-item.is)
    (sym (c.is_unknown_cell.ensures ∙ ap (is_unknown_cell K) c.listed_cell.ensures) ∙ c.if-is_unknown_cell.false) c.loop-rest.invariant
