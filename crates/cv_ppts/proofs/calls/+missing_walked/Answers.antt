use Rattle.std.proofs.Common.{List, [], ◌-◌, ◌∙◌, ap, drop, length, sym, take}
use Rattle.cv_core.specs.declared.program.Atom.{Atom}
use Rattle.cv_ppts.specs.Numbers.{codes_of}
use Rattle.cv_ppts.specs.Keys.{setting}
use Rattle.cv_ppts.specs.Outcomes.{walked}
use Rattle.cv_ppts.specs.Picked.{choice_of, gift_at}
use Rattle.cv_ppts.proofs.Called.{peeled, walk_moves, walk_step}
use Rattle.cv_ppts.proofs.Lacked.{nil_below}
use Rattle.cv_ppts.proofs.calls.+missing_walked.Goals as goal

pub returns-in_default : goal.returns-in_default
returns-in_default t c =
    let s = setting c.args.s.now in
    let K = choice_of s c.args.k.now in
    walk_moves s (codes_of c.args.sets.now) c.args.target c.args.into c.args.g.now K c.args.atoms.now c.args.rest.now [] (gift_at c.args.gifts.now) (gift_at c.args.gifts.now) c.missing_after.result
    (ap (walked s c.args.g.now K (gift_at c.args.gifts.now)) (nil_below c.args.rest.now c.in_default.len_below)) c.missing_after.ensures

pub returns-in-None : goal.returns-in-None
returns-in-None t c =
    let s = setting c.args.s.now in
    let K = choice_of s c.args.k.now in
    let more : List Atom = take (length c.args.rest.now - 1) (drop 1 c.args.rest.now) in
    walk_moves s (codes_of c.args.sets.now) c.args.target c.args.into c.args.g.now K c.args.atoms.now c.args.rest.now more (gift_at c.args.gifts.now) (gift_at c.args.gifts.now) c.missing_walked.result
    (walk_step s c.args.g.now K (gift_at c.args.gifts.now) c.args.rest.now more c.atom-item.result _ (peeled c.args.rest.now c.atom-item.result _ c.in-len1-up.len_at_least c.atom-item.is) (sym c.gift_by.ensures ∙ c.in-None.is))
    c.missing_walked.ensures

pub returns-in-Some : goal.returns-in-Some
returns-in-Some t c =
    let s = setting c.args.s.now in
    let K = choice_of s c.args.k.now in
    let more : List Atom = take (length c.args.rest.now - 1) (drop 1 c.args.rest.now) in
    walk_moves s (codes_of c.args.sets.now) c.args.target c.args.into c.args.g.now K c.args.atoms.now c.args.rest.now more (gift_at c.args.gifts.now) _ c.missing_walked-in-Some.result
    (walk_step s c.args.g.now K (gift_at c.args.gifts.now) c.args.rest.now more c.atom-item.result _ (peeled c.args.rest.now c.atom-item.result _ c.in-len1-up.len_at_least c.atom-item.is) (sym c.gift_by.ensures ∙ c.in-Some.is))
    c.missing_walked-in-Some.ensures
