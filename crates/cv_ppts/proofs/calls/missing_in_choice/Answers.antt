use Rattle.std.proofs.Common.{sym, ◌∙◌}
use Rattle.cv_ppts.specs.Numbers.{codes_of}
use Rattle.cv_ppts.specs.Keys.{setting}
use Rattle.cv_ppts.specs.Picked.{choice_of}
use Rattle.cv_ppts.proofs.Called.{choice_fails, choice_passes}
use Rattle.cv_ppts.proofs.calls.missing_in_choice.Goals as goal

pub returns-then-is_failing : goal.returns-then-is_failing
returns-then-is_failing c = choice_fails (setting c.args.s.now) (codes_of c.args.sets.now) c.args.target c.args.into c.args.g.now (choice_of (setting c.args.s.now) c.args.k.now) (sym c.is_failing.ensures ∙ c.if-is_failing.true)

pub returns-else-is_failing : goal.returns-else-is_failing
returns-else-is_failing c =
    choice_passes (setting c.args.s.now) (codes_of c.args.sets.now) c.args.target c.args.into c.args.g.now (choice_of (setting c.args.s.now) c.args.k.now) c.as_slice.result.now c.missing_in_ensures.result c.as_slice.ensures
    (sym c.is_failing.ensures ∙ c.if-is_failing.false) c.missing_in_ensures.ensures
