use Rattle.std.proofs.Common.{sym, ◌∙◌}
use Rattle.cv_ppts.specs.Numbers.{codes_of}
use Rattle.cv_ppts.specs.Keys.{setting}
use Rattle.cv_ppts.specs.Picked.{choice_of, gift_at}
use Rattle.cv_ppts.proofs.Called.{after_given, after_none}
use Rattle.cv_ppts.proofs.calls.missing_after.Goals as goal

pub returns-then-has_false_atom : goal.returns-then-has_false_atom
returns-then-has_false_atom c =
    after_none (setting c.args.s.now) (codes_of c.args.sets.now) c.args.target c.args.into c.args.g.now (choice_of (setting c.args.s.now) c.args.k.now) c.args.atoms.now (gift_at c.args.gifts.now) (sym c.has_false_atom.ensures ∙ c.if-has_false_atom.true)

pub returns : goal.returns
returns c =
    after_given (setting c.args.s.now) (codes_of c.args.sets.now) c.args.target c.args.into c.args.g.now (choice_of (setting c.args.s.now) c.args.k.now) c.args.atoms.now (gift_at c.args.gifts.now) c.has_fresh.result c.missing_given.result
    (sym c.has_false_atom.ensures ∙ c.if-has_false_atom.false) c.has_fresh.ensures c.missing_given.ensures
