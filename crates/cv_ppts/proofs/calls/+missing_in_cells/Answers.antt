use Rattle.std.proofs.Common.{List, ◌-◌, drop, length, subst, take}
use Rattle.cv_core.specs.declared.program.Item.{Item}
use Rattle.cv_ppts.specs.Numbers.{codes_of}
use Rattle.cv_ppts.specs.Choices.{item_target}
use Rattle.cv_ppts.specs.Keys.{setting}
use Rattle.cv_ppts.specs.Lacking.{Lacks}
use Rattle.cv_ppts.specs.Picked.{choice_of, gift_at}
use Rattle.cv_ppts.specs.Plain.{Sets}
use Rattle.cv_ppts.specs.Targets.{CellAsked}
use Rattle.cv_ppts.proofs.Called.{peeled}
use Rattle.cv_ppts.proofs.Lacked.{first_of, rest_of}
use Rattle.cv_ppts.proofs.calls.+missing_in_cells.Goals as goal

pub returns-in-Some : goal.returns-in-Some
returns-in-Some t c =
    let s = setting c.args.s.now in
    let P = λ (R : Sets) (x : Item). CellAsked s R c.args.target c.args.fresh (gift_at c.args.gifts.now) (item_target s c.args.g.now (choice_of s c.args.k.now) x) in
    let more : List Item = take (length c.args.items.now - 1) (drop 1 c.args.items.now) in
    first_of P (codes_of c.args.sets.now) c.args.items.now c.item-item.result more _ _ (peeled c.args.items.now c.item-item.result _ c.in-len1-up.len_at_least c.item-item.is)
    (subst (λ o. Lacks (codes_of c.args.sets.now) (λ (R : Sets). CellAsked s R c.args.target c.args.fresh (gift_at c.args.gifts.now) o) c.in-Some.missing.to c.in-Some.missing.code) c.item_target.ensures c.in-Some.ensures)

pub returns-in-None : goal.returns-in-None
returns-in-None t c =
    let s = setting c.args.s.now in
    let P = λ (R : Sets) (x : Item). CellAsked s R c.args.target c.args.fresh (gift_at c.args.gifts.now) (item_target s c.args.g.now (choice_of s c.args.k.now) x) in
    let more : List Item = take (length c.args.items.now - 1) (drop 1 c.args.items.now) in
    rest_of P (codes_of c.args.sets.now) c.args.items.now c.item-item.result more c.missing_in_cells.result (peeled c.args.items.now c.item-item.result _ c.in-len1-up.len_at_least c.item-item.is)
    (subst (λ o. CellAsked s (codes_of c.args.sets.now) c.args.target c.args.fresh (gift_at c.args.gifts.now) o) c.item_target.ensures c.in-None.ensures)
    c.missing_in_cells.ensures
