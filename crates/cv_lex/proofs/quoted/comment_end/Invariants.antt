use Rattle.std.proofs.Common.{◌≡◌, ◌+◌, drop, length}
use Rattle.cv_lex.specs.Parts.{close_from}
use Rattle.cv_lex.proofs.quoted.comment_end.Given as goal

abbrev pub invariant-loop-rest : goal.invariant-loop-rest
invariant-loop-rest l = record { same : close_from l.at l.rest ≡ close_from 2 (drop 2 l.text); place : l.at + length l.rest ≡ length l.text }

abbrev pub decreases-loop-rest : goal.decreases-loop-rest
decreases-loop-rest l = length l.rest
