use Rattle.std.proofs.Common.{rules}
use Rattle.cv_text.specs.Tokens.{value_of}
use Rattle.cv_app.proofs.NumberLemmas.{passes, too_great}
use Rattle.cv_app.proofs.numbers.number_up_to.Goals as goal

pub returns-then-next-from : goal.returns-then-next-from
returns-then-next-from c =
    too_great c.args.most c.args.word.now
    (passes c.loop-digit.value (value_of c.args.word.now) c.loop-digit.digit-index c.args.most c.args.word.now (search rules) c.loop-digit.invariant.same (search rules))
