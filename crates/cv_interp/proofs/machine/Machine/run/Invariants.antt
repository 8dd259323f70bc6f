use Rattle.std.proofs.Common.{◌≡◌, ℕ, ◌+◌}
use Rattle.cv_meaning.specs.declared.ends.RunEnd.TheVariants as how
use Rattle.cv_interp.specs.Machine.{end}
use Rattle.cv_interp.proofs.machine.Machine.run.Given as goal

abbrev pub invariant-loop-i : goal.invariant-loop-i
invariant-loop-i l = record { stands : (n : ℕ) → end l.self n ≡ end l.fn.self (l.i + n); on : (end l.self 0).how ≡ how.Stopped }
