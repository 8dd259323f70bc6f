use Rattle.std.proofs.Common.{◌≡◌, ℕ, List, length}
use Rattle.cv_text.specs.Grammar.{variables_of}
use Rattle.cv_text.specs.Known.{entry, or_else, first_said}
use Rattle.cv_text.proofs.names.Scope.declare_locals.Given as goal

abbrev pub invariant-loop-left : goal.invariant-loop-left
invariant-loop-left l = (x : List ℕ) → or_else (entry l.self x) (first_said (variables_of l.left) x) ≡ or_else (entry l.fn.self x) (first_said (variables_of l.locals) x)

abbrev pub decreases-loop-left : goal.decreases-loop-left
decreases-loop-left l = length l.left
