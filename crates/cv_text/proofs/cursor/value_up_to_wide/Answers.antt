use Rattle.std.proofs.Common.{◌^◌, arith}
use Rattle.cv_text.proofs.Values.{keeps}
use Rattle.cv_text.proofs.cursor.value_up_to_wide.Goals as goal

pub loop-digit-preserved : goal.loop-digit-preserved
loop-digit-preserved c = record {
  small = omega arith;
  same = keeps (2 ^ 32) c.loop-digit.value c.min-value.result _ c.loop-digit.digit-index c.args.digits.now (omega arith) c.loop-digit.invariant.same (cc);
}
