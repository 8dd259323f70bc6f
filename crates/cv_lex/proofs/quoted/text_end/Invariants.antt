use Rattle.std.proofs.Common.{◌≡◌, ◌+◌, drop, length, false}
use Rattle.cv_lex.specs.Parts.{quote_from}
use Rattle.cv_lex.proofs.quoted.text_end.Given as goal

abbrev pub invariant-loop-rest : goal.invariant-loop-rest
invariant-loop-rest l = record { same : quote_from l.escaped l.at l.rest ≡ quote_from false 1 (drop 1 l.text); place : l.at + length l.rest ≡ length l.text }

abbrev pub decreases-loop-rest : goal.decreases-loop-rest
decreases-loop-rest l = length l.rest
