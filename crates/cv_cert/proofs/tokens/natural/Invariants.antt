use Rattle.std.proofs.Common.{◌≡◌, ◌≤◌, ◌+◌, length}
use Rattle.std.specs.Str.{all_ascii_digits}
use Rattle.cv_cert.specs.Tokens.{digits_after}
use Rattle.cv_cert.proofs.tokens.natural.Given as goal

abbrev pub invariant-loop-rest : goal.invariant-loop-rest
invariant-loop-rest l = record {
  digits : all_ascii_digits l.rest ≡ all_ascii_digits l.fn.token;
  value : digits_after l.value l.rest ≡ digits_after 0 l.fn.token;
  small : l.value ≤ l.most + 9;
}

abbrev pub decreases-loop-rest : goal.decreases-loop-rest
decreases-loop-rest l = length l.rest
