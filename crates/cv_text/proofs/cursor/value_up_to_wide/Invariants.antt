use Rattle.std.proofs.Common.{◌≡◌, ◌^◌, ◌≤◌, drop, min}
use Rattle.cv_text.specs.Tokens.{value_behind, value_of}
use Rattle.cv_text.proofs.cursor.value_up_to_wide.Given as goal

abbrev pub invariant-loop-digit : goal.invariant-loop-digit
invariant-loop-digit l = record { small : l.value ≤ 2 ^ 32; same : min (value_behind l.value (drop l.digit-index l.digits)) (2 ^ 32) ≡ min (value_of l.digits) (2 ^ 32) }
