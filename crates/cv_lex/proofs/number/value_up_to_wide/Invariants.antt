use Rattle.std.proofs.Common.{◌≡◌, ◌^◌, ◌+◌, ◌≤◌, drop, min}
use Rattle.cv_lex.specs.Bytes.{value_behind, value_of}
use Rattle.cv_lex.proofs.number.value_up_to_wide.Given as goal

abbrev pub invariant-loop-digit : goal.invariant-loop-digit
invariant-loop-digit l = record { small : l.value ≤ 2 ^ 31 + 1; same : min (value_behind l.base l.value (drop l.digit-index l.digits)) (2 ^ 31 + 1) ≡ min (value_of l.base l.digits) (2 ^ 31 + 1) }
