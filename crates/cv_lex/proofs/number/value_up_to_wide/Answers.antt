use Rattle.std.proofs.Common.{◌^◌, ◌+◌, arith}
use Rattle.cv_lex.proofs.Values.{keeps}
use Rattle.cv_lex.proofs.number.value_up_to_wide.Goals as goal

pub loop-digit-preserved : goal.loop-digit-preserved
loop-digit-preserved c = record {
  small = omega arith;
  same = keeps c.args.base (2 ^ 31 + 1) c.loop-digit.value c.min-value.result _ c.loop-digit.digit-index c.args.digits.now (omega arith) (omega arith) c.loop-digit.invariant.same (cc);
}
