use Rattle.std.proofs.Common.{sym, ◌∙◌, arith}
use Rattle.cv_cert.proofs.Numbers.{bad_digit, over}
use Rattle.cv_cert.proofs.tokens.natural.Goals as goal

pub returns-then-not-is_ascii_digit-clause-value : goal.returns-then-not-is_ascii_digit-clause-value
returns-then-not-is_ascii_digit-clause-value c = sym (bad_digit c.args.most c.args.token.now c.loop-rest.rest.now c.loop-rest.invariant.digits (omega arith) (sym c.is_ascii_digit.ensures.value ∙ c.if-not-is_ascii_digit.true))

pub returns-then-value-most-clause-value : goal.returns-then-value-most-clause-value
returns-then-value-most-clause-value c = sym (over c.args.most c.loop-rest.value c.args.token.now c.loop-rest.rest.now c.loop-rest.invariant.value (omega arith) (omega arith))
