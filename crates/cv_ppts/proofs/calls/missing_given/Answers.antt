use Rattle.std.proofs.Common.{ap, ◌∙◌}
use Rattle.cv_ppts.specs.Numbers.{codes_of}
use Rattle.cv_ppts.specs.Keys.{setting}
use Rattle.cv_ppts.specs.Outcomes.{settled}
use Rattle.cv_ppts.specs.Picked.{choice_of, gift_at}
use Rattle.cv_ppts.proofs.Called.{given_first, given_rest}
use Rattle.cv_ppts.proofs.calls.missing_given.Goals as goal

pub returns-in-Some : goal.returns-in-Some
returns-in-Some c =
    given_first (setting c.args.s.now) (codes_of c.args.sets.now) c.args.target c.args.into c.args.g.now (choice_of (setting c.args.s.now) c.args.k.now) c.args.fresh (gift_at c.args.gifts.now) c.settled.result _ _
    (c.settled.ensures ∙ ap settled c.gift_at.ensures) c.in-Some.ensures

pub returns-in-None : goal.returns-in-None
returns-in-None c =
    given_rest (setting c.args.s.now) (codes_of c.args.sets.now) c.args.target c.args.into c.args.g.now (choice_of (setting c.args.s.now) c.args.k.now) c.args.fresh (gift_at c.args.gifts.now) c.settled.result c.as_slice.result.now c.missing_in_cells.result
    (c.settled.ensures ∙ ap settled c.gift_at.ensures) c.as_slice.ensures c.in-None.ensures c.missing_in_cells.ensures
