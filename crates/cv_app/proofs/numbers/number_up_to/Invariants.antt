use Rattle.std.proofs.Common.{◌≡◌, ◌≤◌, drop}
use Rattle.cv_text.specs.Tokens.{value_behind, value_of}
use Rattle.cv_app.proofs.numbers.number_up_to.Given as goal

abbrev pub invariant-loop-digit : goal.invariant-loop-digit
invariant-loop-digit l = record { small : l.value ≤ l.most; same : value_behind l.value (drop l.digit-index l.word) ≡ value_of l.word }
